-- The run that was served is the one that was recorded and printed.
use Rattle.std.proofs.Common.{◌≡◌, ◌∙◌, ap, subst, inl, Result, Ok, MatchResult}
use Rattle.rb_history.specs.declared.history_fault.HistoryFault.{HistoryFault}
use Rattle.rb_serving.specs.ServeText.{first_fault}
use Rattle.rb_serving.proofs.ServedRuns.{of_ok}
use Rattle.rb_serving.proofs.served_run.serve_run.Goals as goal

-- what holds of any good result holds
of_good : {A E : Type 0} (result : Result A E) (value : A) (Holds : Type 0) (Else : E → Type 0) → result ≡ Ok value
    → MatchResult result (λ _. Holds) Else → Holds
of_good result value Holds Else is holds = subst (λ r. MatchResult r (λ _. Holds) Else) is holds

pub returns : goal.returns
returns g c = record {
  ended = λ opening fresh.
      let served = c.serve_door_gathered-door in
      let both = of_ok served.result.2 c.in-Ok.report _ c.in-Ok.is (served.ensures.served opening fresh) in inl (record {
        report = c.in-Ok.report;
        run = both.0;
        gathers = both.1;
        between = served.result.1;
        began = of_good served.result.2 c.in-Ok.report _ _ c.in-Ok.is served.ensures.recorder;
        recorded = c.record-recorded.result;
        records = c.record-recorded.ensures.records;
        fault = c.record-recorded.ensures.fault;
        printed = c.ended-end.result.printed;
        prints = c.ended-end.ensures.printed;
        outcome = c.result.ensures
            ∙ ap (λ (recorded : Result (Unit {0}) HistoryFault). first_fault recorded c.ended-end.result.printed) c.ended-end.ensures.recorded;
      });
}
