-- What is written of a run that keeps jobs is accepted by the check of retries, and the run that continues it begins with
-- the jobs that it left.
use Rattle.std.specs.Prelude.{◌≡◌, ◌⊎◌, ℕ, List, [], length, Result, Ok, Err}
use Rattle.rb_queue.specs.Counts.{left_count}
use Rattle.rb_queue.specs.History.{start_of, state_of}
use Rattle.rb_queue.specs.declared.event.Event.{Event}
use Rattle.rb_queue.specs.declared.opening.Opening.{Opening}
use Rattle.rb_retry.specs.declared.policy.Policy.{Policy}
use Rattle.rb_replay.specs.Chaining.{Chains}
use Rattle.rb_replay.specs.Opens.{Opens}
use Rattle.rb_replay.specs.declared.chain_fault.ChainFault.{ChainFault}
use Rattle.rb_replay.specs.declared.chain_fault.ChainFault.TheVariants.{Memory}
use Rattle.rb_jobs.specs.Places.{AreJobs, KeepsJobs}
use Rattle.rb_jobs.specs.QueueSums.{origins_sum, waiting_sum}

-- the law of the check of retries: of a history that keeps jobs it finds no offer that is not right
abbrev pub JobsAreAccepted : Type 0
JobsAreAccepted =
    (policy : Policy) (opening : Opening) (history : List Event) (answer : Result (Unit {0}) ChainFault)
    → KeepsJobs policy opening history → Chains policy opening history answer
    → (answer ≡ Ok tt) ⊎ (answer ≡ Err Memory)

-- the law of beginnings: an opening with no element begins with no job
abbrev pub NoneAreJobs : Type 0
NoneAreJobs = (opening : Opening) → opening.elements ≡ [] → AreJobs (start_of opening).queue

-- the law of continued runs: the next one begins with just the jobs that were left, in number and by their origins
abbrev pub JobsGoOn : Type 0
JobsGoOn =
    (policy : Policy) (opening next : Opening) (history : List Event) → KeepsJobs policy opening history
    → Opens opening history (Ok next)
    → AreJobs (start_of next).queue × (left_count opening history ≡ length next.elements)
    × ((amount : ℕ → ℕ) → waiting_sum amount (state_of opening history).queue ≡ origins_sum amount next.elements)
