-- Where runs begin that go on behind histories.
use Rattle.std.proofs.Common.{◌≡◌, ℕ, List, Result, Err, inl, inr, subst}
use Rattle.rb_queue.specs.declared.event.Event.{Event}
use Rattle.rb_queue.specs.declared.opening.Opening.{Opening}
use Rattle.rb_replay.specs.Opens.{Opens}
use Rattle.rb_history.specs.Readings.{IsTextOf}
use Rattle.rb_replay.specs.declared.opening_fault.OpeningFault.{OpeningFault}
use Rattle.rb_replay.specs.declared.opening_fault.OpeningFault.TheVariants.{At, TooLarge}
use Rattle.rb_replay.specs.declared.reason.Reason.{Reason}
use Rattle.rb_runs.specs.Beginning.{BeginsIn, Continues, HasNoNext}
use Rattle.rb_ending.specs.declared.broker_fault.BrokerFault.{BrokerFault}
use Rattle.rb_ending.specs.declared.broker_fault.BrokerFault.TheVariants.{BadOpening}

-- what goes on behind a history goes on so behind the same one
pub goes_on_same : {one other : Opening} {events others : List Event} (result : Result Opening BrokerFault)
    → (one ≡ other) × (events ≡ others) → Continues one events result → Continues other others result
goes_on_same {one = one} {others = others} result (same, alike) goes =
    subst (λ from. Continues from others result) same (subst (λ events. Continues one events result) alike goes)

-- a history that is refused has no next run
pub refused : {from : Opening} {events : List Event} {fault : OpeningFault} {index : ℕ} {reason : Reason}
    → fault ≡ At index reason → Opens from events (Err fault) → HasNoNext from events
refused {from = from} {events = events} {index = index} {reason = reason} is opens =
    inl (index, reason, subst (λ fault. Opens from events (Err fault)) is opens)

-- nor has one that leads too far
pub too_large : {from : Opening} {events : List Event} {fault : OpeningFault}
    → fault ≡ TooLarge → Opens from events (Err fault) → HasNoNext from events
too_large {from = from} {events = events} is opens = inr (subst (λ fault. Opens from events (Err fault)) is opens)

-- no run begins in the text of a history that has no next run
pub begins_nowhere : {text : List ℕ} (from : Opening) (events : List Event)
    → IsTextOf from events text → HasNoNext from events → BeginsIn text (Err BadOpening)
begins_nowhere from events reads none = inr (from, events, reads, none)
