-- What was written of a run that kept jobs is read as that run, and so the next one begins with what was left.
use Rattle.std.proofs.Common.{◌≡◌, ◌≤◌, ℕ, List, ◌++◌, length, Option, Some, refl, sym, subst, ◌∙◌, arith}
use Rattle.std.proofs.lemmas.List.{append_cancel_left}
use Rattle.rb_queue.specs.declared.event.Event.{Event}
use Rattle.rb_queue.specs.declared.opening.Opening.{Opening}
use Rattle.rb_kept.specs.Log.{Log}
use Rattle.rb_kept.specs.declared.kept.TheConstants.{MOST_CALLS}
use Rattle.rb_retry.specs.declared.policy.Policy.{Policy}
use Rattle.rb_history.specs.HistoryText.{history_text}
use Rattle.rb_history.specs.Readings.{IsTextIn, IsTextOf}
use Rattle.rb_history.specs.declared.version.Version.TheVariants.{Three}
use Rattle.rb_runs.proofs.WrittenRuns.{recorded_is_read}
use Rattle.rb_serving.specs.Terms.{Terms}
use Rattle.rb_jobs.specs.NextRuns.{HandsJobsOn, ScriptHandsJobsOn, ServerHandsJobsOn}
use Rattle.rb_jobs.specs.Places.{KeepsJobs}
use Rattle.rb_jobs.proofs.Continued.{jobs_go_on}
use Rattle.rb_jobs.proofs.KeptHands.{script_keeps_jobs}
use Rattle.rb_jobs.proofs.ScriptEvents.{records_by_script}
use Rattle.rb_jobs.proofs.ServedHands.{server_keeps_jobs}

-- the text that is written is a text of the run
is_text : (opening : Opening) (events : List Event) → length events ≤ MOST_CALLS
    → IsTextIn Three opening events (history_text opening events)
is_text opening events few = record { text_is = refl; begins = tt; few = omega (arith, few); firsts = tt }

-- a log that kept jobs hands them on
hands_on : (policy : Policy) (log : Log) → KeepsJobs policy log.opening log.history → HandsJobsOn log
hands_on policy log keeps got got' before text next records had has opens =
    let read = recorded_is_read log got got' records in
    let written : Some (before ++ text) ≡ Some (before ++ history_text log.opening log.history) =
    sym has ∙ read.0 before had in
    let same : text ≡ history_text log.opening log.history =
    append_cancel_left before text (history_text log.opening log.history) (cc) in
    let is : IsTextOf log.opening log.history text =
    subst (IsTextOf log.opening log.history) (sym same)
    (Three, is_text log.opening log.history records.readable.few) in
    let next_is = jobs_go_on policy log.opening next log.history keeps
    (opens log.opening log.history records.readable.opening records.readable.events is) in
    record { jobs = next_is.0; number = next_is.1; origins = next_is.2 }

pub script_hands_jobs_on : {W : Type 0} (sends : W → Option (List ℕ)) → ScriptHandsJobsOn sends
script_hands_jobs_on sends got policy calls delivery rest opening served to jobs ran =
    hands_on policy to.log
    (subst (λ (begun : Opening). KeepsJobs policy begun to.log.history)
    (sym (records_by_script sends got policy calls delivery rest opening served to ran).1)
    (script_keeps_jobs sends got policy calls delivery rest opening served to jobs ran).keeps)

module _ {I O G C : Type 0} (terms : Terms I O G C) where
  pub server_hands_jobs_on : {T : Type 0} → ServerHandsJobsOn terms T
  server_hands_jobs_on opening options report jobs run =
      hands_on terms.policy report.kept
      (subst (λ (begun : Opening). KeepsJobs terms.policy begun report.kept.history) (sym run.opening)
      (server_keeps_jobs terms opening options report jobs run).keeps)
