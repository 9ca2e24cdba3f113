-- What a run leaves behind, and what the next one begins with, by way of a file.
use Rattle.std.specs.Prelude.{◌≡◌, ℕ, List, ◌++◌, length, Option, Some, Ok}
use Rattle.std.specs.Io.KnownBytes.{IsAtEnd}
use Rattle.rb_queue.specs.Counts.{left_count}
use Rattle.rb_queue.specs.History.{start_of, state_of}
use Rattle.rb_queue.specs.declared.event.Event.{Event}
use Rattle.rb_queue.specs.declared.opening.Opening.{Opening}
use Rattle.rb_kept.specs.Log.{Log}
use Rattle.rb_retry.specs.KeptSteps.{KeptState}
use Rattle.rb_retry.specs.declared.policy.Policy.{Policy}
use Rattle.rb_session.specs.Served.{Served}
use Rattle.rb_session.specs.declared.delivery.Delivery.{Delivery}
use Rattle.rb_history.specs.Ranges.{IsRightOpening, AreRightEvents}
use Rattle.rb_history.specs.Readings.{IsTextOf}
use Rattle.rb_ending.specs.Recording.{RecordsLog}
use Rattle.rb_options.specs.declared.server_run_options.ServerRunOptions.{ServerRunOptions}
use Rattle.rb_runs.specs.Beginning.{Continues}
use Rattle.rb_runs.specs.Script.{RanSession, script_terms}
use Rattle.rb_serving.specs.Serving.{IsServersRun}
use Rattle.rb_serving.specs.Terms.{Terms}
use Rattle.rb_serving.specs.declared.serve_report.ServeReport.{ServeReport}
use Rattle.rb_jobs.specs.Places.{AreJobs}
use Rattle.rb_jobs.specs.QueueSums.{origins_sum, waiting_sum}

-- what `opening_in` says if it makes this opening of this text
abbrev pub IsOpeningIn : List ℕ → Opening → Type 0
IsOpeningIn text next =
    (from : Opening) (events : List Event) → IsRightOpening from → AreRightEvents events → IsTextOf from events text
    → Continues from events (Ok next)

-- The opening has one element of each job, and just the jobs that the log left, in number and by their origins.
pub record HasJobsOf (log : Log) (next : Opening) : Type 0 where
  pub jobs : AreJobs (start_of next).queue
  pub number : left_count log.opening log.history ≡ length next.elements
  pub origins : (amount : ℕ → ℕ)
      → waiting_sum amount (state_of log.opening log.history).queue ≡ origins_sum amount next.elements

-- If the log's history was written whole to a device, then each opening that is made of what the device got has the
-- jobs that the log left.
abbrev pub HandsJobsOn : Log → Type 0
HandsJobsOn log =
    (got got' : Option (List ℕ)) (before text : List ℕ) (next : Opening) → RecordsLog log (Ok tt) got got'
    → got ≡ Some before → got' ≡ Some (before ++ text) → IsOpeningIn text next → HasJobsOf log next

-- the law from one script to the next run
abbrev pub ScriptHandsJobsOn : {W : Type 0} → (W → Option (List ℕ)) → Type 0
ScriptHandsJobsOn sends =
    (got : Option (List ℕ)) (policy : Policy) (calls : ℕ) (delivery : Delivery) (rest : Option (List ℕ))
    (opening : Opening) (served : Served) (to : KeptState)
    → AreJobs (start_of opening).queue
    → RanSession (script_terms sends got policy calls delivery opening) (IsAtEnd rest) served to
    → HandsJobsOn to.log

module _ {I O G C : Type 0} (terms : Terms I O G C) where
  -- the law from one server to the next run
  abbrev pub ServerHandsJobsOn : Type 0 → Type 0
  ServerHandsJobsOn T =
      (opening : Opening) (options : ServerRunOptions) (report : ServeReport T) → AreJobs (start_of opening).queue
      → IsServersRun terms opening options report → HandsJobsOn report.kept
