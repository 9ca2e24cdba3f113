-- What a call through a pass gives, and what the pass has seen after it.
use Rattle.std.specs.Prelude.{◌≡◌, ◌<◌, List, [], ◌∷◌, ◌++◌, length, Result, Ok, Err}
use mathlib.Core.List.{IsPrefix}
use Rattle.rb_queue.specs.declared.event.Event.{Event}
use Rattle.rb_queue.specs.declared.reply.Reply.{Reply}
use Rattle.rb_kept.specs.Log.{HasRoom, IsFull}
use Rattle.rb_kept.specs.Tries.{TakesMemory, Waits, Records}
use Rattle.rb_kept.specs.declared.tries.Try.{Try}
use Rattle.rb_kept.specs.declared.outcome.Outcome.{Outcome}
use Rattle.rb_kept.specs.declared.outcome.Outcome.TheVariants.{Done, Later}
use Rattle.rb_kept.specs.declared.fault.CallFault.{CallFault}
use Rattle.rb_kept.specs.declared.fault.CallFault.TheVariants.{Full, Memory}
use Rattle.rb_lock.specs.Passes.{PassState, log_at, log_of}

-- The last event that the pass has seen is this call. Before it come all events that it had seen, and perhaps
-- others. The call is one more of the pass's own, and has the reply that the history gives it.
pub record Replied (old new : PassState) (try : Try) (reply : Reply) : Type 0 where
  pub before : List Event
  pub event : Event
  pub begins : IsPrefix old.seen before
  pub room : length before < old.capacity
  pub seen : new.seen ≡ before ++ event ∷ []
  pub mine : new.mine ≡ old.mine ++ event ∷ []
  pub records : Records (log_at old before) try reply event

-- How a call ended, and what the pass has seen after it. Without a reply the pass has made no further call.
abbrev pub Answered : PassState → PassState → Try → Result Outcome CallFault → Type 0
Answered old new try (Ok (Done reply)) = Replied old new try reply
Answered old new try (Ok (Later next)) = (new.mine ≡ old.mine) × HasRoom (log_of new) × Waits (log_of new) try next
Answered old new try (Err Full) = (new.mine ≡ old.mine) × IsFull (log_of new)
Answered old new try (Err Memory) = (new.mine ≡ old.mine) × HasRoom (log_of new) × TakesMemory try.ask
