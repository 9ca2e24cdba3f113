-- What a server reports, from what its workers gave.
use Rattle.std.proofs.Common.{◌≡◌, List, [], ◌∷◌, ◌++◌, Result, Ok, IfOk, subst, ap, ◌∙◌}
use Rattle.rb_lock.specs.Passes.{PassState, record_of}
use Rattle.rb_lock.specs.ClosedQueues.{HasCallsOf}
use Rattle.rb_lock.specs.declared.pass_record.PassRecord.{PassRecord}
use Rattle.rb_queue.specs.declared.opening.Opening.{Opening}
use Rattle.rb_options.specs.declared.server_run_options.ServerRunOptions.{ServerRunOptions}
use Rattle.rb_serving.specs.DoorSteps.{DoorStep}
use Rattle.rb_serving.specs.Serving.{FoldsWorkers, IsReport, IsServersRun}
use Rattle.rb_serving.specs.Terms.{Terms}
use Rattle.rb_serving.specs.Visits.{AreWorkers}
use Rattle.rb_serving.specs.declared.serve_report.ServeReport.{ServeReport}
use Rattle.rb_serving.specs.declared.visit_counts.VisitCounts.{VisitCounts}

-- what holds of a good result holds of its value
pub of_ok : {A E : Type 0} (result : Result A E) (value : A) (Holds : A → Type 0) → result ≡ Ok value → IfOk result Holds
    → Holds value
of_ok result value Holds is holds = subst (λ r. IfOk r Holds) is holds

module _ {I O G C : Type 0} (terms : Terms I O G C) {T : Type 0} where
  -- the report of the workers' passes and counts
  abbrev pub server_run : (begun : Opening) (options : ServerRunOptions) (report : ServeReport T)
      (first pass : PassState) (visits : VisitCounts) (logs : List (List (DoorStep I O G)))
      → first.opening ≡ begun → first.capacity ≡ options.calls → first.mine ≡ [] → first.folded ≡ []
      → FoldsWorkers terms options.workers logs first pass visits → IsReport pass visits report
      → IsServersRun terms begun options report
  server_run begun options report first pass visits logs opening capacity idle alone folds is = record {
    opening = is.opening ∙ folds.opening ∙ opening;
    capacity = is.capacity ∙ folds.capacity ∙ capacity;
    audited = is.audited;
    first = record_of pass;
    idle = folds.mine ∙ idle;
    records = folds.records;
    many = folds.many;
    holds = subst (λ (folded : List PassRecord). HasCallsOf report.kept (record_of pass ∷ folded))
        (folds.folded ∙ ap (λ (front : List PassRecord). front ++ folds.records) alone) is.holds;
    visits = folds.visits;
    logs = logs;
    served = subst (λ room. AreWorkers terms room begun logs folds.visits folds.records) capacity
        (subst (λ start. AreWorkers terms first.capacity start logs folds.visits folds.records) opening folds.served);
    counted = is.counted ∙ folds.counted;
  }
