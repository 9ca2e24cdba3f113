-- Which events the history of a script has: just those of its session.
use Rattle.std.specs.Prelude.{◌≡◌, ℕ, List, Option}
use Rattle.std.specs.Io.KnownBytes.{IsAtEnd}
use Rattle.rb_queue.specs.declared.opening.Opening.{Opening}
use Rattle.rb_retry.specs.KeptSteps.{KeptState}
use Rattle.rb_retry.specs.declared.policy.Policy.{Policy}
use Rattle.rb_jobs.specs.Events.{made_in, latest}
use Rattle.rb_jobs.specs.RunEvents.{MadeByRun}
use Rattle.rb_session.specs.declared.delivery.Delivery.{Delivery}
use Rattle.rb_session.specs.Served.{Served}
use Rattle.rb_runs.specs.Script.{RanSession, script_terms}

-- the law of scripts: the history begins with the opening, and has the events of the lines that were served and of the
-- jobs that were still held, each with its reply, and no other; the clock stands at the latest moment
abbrev pub RecordsByScript : {W : Type 0} → (W → Option (List ℕ)) → Type 0
RecordsByScript sends =
    (got : Option (List ℕ)) (policy : Policy) (calls : ℕ) (delivery : Delivery) (rest : Option (List ℕ))
    (opening : Opening) (served : Served) (to : KeptState)
    → RanSession (script_terms sends got policy calls delivery opening) (IsAtEnd rest) served to
    → (run : MadeByRun policy (IsAtEnd rest) served (λ made. made_in to.log ≡ made))
    × (to.log.opening ≡ opening) × (to.moment ≡ latest opening.last_at run.lines)
