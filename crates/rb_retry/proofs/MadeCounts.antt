-- How many events a desk over a kept queue has made.
use Rattle.std.proofs.Common.{◌≡◌, ℕ, suc, ◌≤◌, List, [], ◌∷◌, ◌++◌, refl, ap, arith, length, length-append, length-drop, take, drop, Result, Ok, Err}
use Rattle.rb_queue.specs.declared.event.Event.{Event}
use Rattle.rb_queue.specs.declared.opening.Opening.{Opening}
use Rattle.rb_kept.specs.Log.{Log}
use Rattle.rb_kept.specs.Tries.{StepsTo}
use Rattle.rb_kept.specs.declared.tries.Try.{Try}
use Rattle.rb_kept.specs.declared.outcome.Outcome.{Outcome}
use Rattle.rb_kept.specs.declared.outcome.Outcome.TheVariants.{Done, Later}
use Rattle.rb_kept.specs.declared.fault.CallFault.{CallFault}
use Rattle.rb_kept.specs.declared.fault.CallFault.TheVariants.{Full, Memory}
use Rattle.rb_kept.specs.declared.kept.TheConstants.{MOST_CALLS}
use Rattle.rb_retry.specs.Made.{made_after}

-- each event is made once
pub length-made_after : (opening : Opening) (before events : List Event) → length (made_after opening before events) ≡ length events
length-made_after opening before [] = refl
length-made_after opening before (event ∷ events) = ap suc (length-made_after opening (before ++ event ∷ []) events)

-- a step leaves the history within its room
within_room : (old : Log) (try : Try) (result : Result Outcome CallFault) (new : Log) → StepsTo old try result new
    → length old.history ≤ old.capacity → length new.history ≤ old.capacity
within_room old try (Ok (Done reply)) new (room, (event, is, records)) few =
    omega (arith, room, ap (λ (log : Log). length log.history) is, length-append old.history (event ∷ []))
within_room old try (Ok (Later expiry)) new (room, (waits, is)) few = omega (arith, few, ap (λ (log : Log). length log.history) is)
within_room old try (Err Full) new (full, is) few = omega (arith, few, ap (λ (log : Log). length log.history) is)
within_room old try (Err Memory) new (room, takes, is) few = omega (arith, few, ap (λ (log : Log). length log.history) is)

-- no more are made than the history has room for
pub made_few : (old : Log) (try : Try) (result : Result Outcome CallFault) (new : Log) (before : ℕ) → StepsTo old try result new
    → length old.history ≤ old.capacity → old.capacity ≤ MOST_CALLS
    → length (made_after new.opening (take before new.history) (drop before new.history)) ≤ MOST_CALLS
made_few old try result new before step few most =
    omega (
      arith,
      most,
      within_room old try result new step few,
      length-made_after new.opening (take before new.history) (drop before new.history),
      length-drop before new.history,
    )
