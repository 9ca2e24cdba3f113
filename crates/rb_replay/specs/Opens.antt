-- The opening of a run that continues a history.
use Rattle.std.specs.Prelude.{◌≡◌, ◌<◌, ◌⊎◌, List, Result, Ok, Err}
use Rattle.std.specs.FinMap as map
use Rattle.rb_queue.specs.History.{State, start_of, state_of, IsLegal}
use Rattle.rb_queue.specs.declared.event.Event.{Event}
use Rattle.rb_queue.specs.declared.opening.Opening.{Opening}
use Rattle.rb_queue.specs.declared.opening.TheConstants.{MOST_OPENING_ELEMENTS, GREATEST_OPENING_ID}
use Rattle.rb_replay.specs.Refusal.{Refuses}
use Rattle.rb_replay.specs.declared.opening_fault.OpeningFault.{OpeningFault}
use Rattle.rb_replay.specs.declared.opening_fault.OpeningFault.TheVariants.{At, TooLarge, Memory}
use Rattle.rb_replay.specs.declared.replay_fault.ReplayFault.{ReplayFault}
use Rattle.rb_replay.specs.declared.replay_fault.ReplayFault.TheVariants as replays

-- more elements are left than an opening may have, or more ids were given out
abbrev pub IsTooLarge : State → Type 0
IsTooLarge state =
    (MOST_OPENING_ELEMENTS < map.len state.queue.bag) ⊎ (GREATEST_OPENING_ID < state.queue.next_id)

-- The history is legal, and a run of the opening begins in the state that it leads to; or that state is too
-- large; or the history is not legal, for the first reason against the first event that is not allowed.
abbrev pub Opens : Opening → List Event → Result Opening OpeningFault → Type 0
Opens from events (Ok opening) = IsLegal from events × (start_of opening ≡ state_of from events)
Opens from events (Err (At index reason)) = Refuses from events index reason
Opens from events (Err TooLarge) = IsLegal from events × IsTooLarge (state_of from events)
Opens from events (Err Memory) = Unit {0}

-- the fault of the replay, as one of an opening
abbrev pub opening_fault : ReplayFault → OpeningFault
opening_fault (replays.At index reason) = At index reason
opening_fault replays.Memory = Memory

-- a run of the opening begins in this state, or that is too large
abbrev pub OpensAt : State → Result Opening OpeningFault → Type 0
OpensAt state (Ok opening) = start_of opening ≡ state
OpensAt state (Err (At index reason)) = ⊥
OpensAt state (Err TooLarge) = IsTooLarge state
OpensAt state (Err Memory) = Unit {0}
