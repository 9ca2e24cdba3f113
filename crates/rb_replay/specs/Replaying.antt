-- How the replay of events may end. No public clause cites this module.
use Rattle.std.specs.Prelude.{◌≡◌, ℕ, List, Result, Ok, Err}
use Rattle.std.specs.FinMap as map
use Rattle.rb_queue.specs.Counts.{sums_of, sums_with}
use Rattle.rb_queue.specs.History.{State, state_of, state_after, Allows, IsLegal}
use Rattle.rb_queue.specs.declared.event.Event.{Event}
use Rattle.rb_queue.specs.declared.opening.Opening.{Opening}
use Rattle.rb_replay.specs.Refusal.{EventTests, Refuses}
use Rattle.rb_replay.specs.declared.judge.JudgeFault.{JudgeFault}
use Rattle.rb_replay.specs.declared.judge.JudgeFault.TheVariants as faults
use Rattle.rb_replay.specs.declared.replay.End.{End}
use Rattle.rb_replay.specs.declared.replay_fault.ReplayFault.{ReplayFault}
use Rattle.rb_replay.specs.declared.replay_fault.ReplayFault.TheVariants.{At, Memory}

-- the queue, and the moment of the last event
abbrev pub end_state : End → State
end_state end = record { queue = end.queue; moment = end.moment }

-- the event is allowed, and the end is one event further
pub record Repeats (old : End) (event : Event) (new : End) : Type 0 where
  pub allowed : Allows (end_state old) event
  pub state : end_state new ≡ state_after (end_state old) event
  pub sums : new.sums ≡ sums_with old.sums event.act (map.len old.queue.bag)

-- the event was allowed and repeated, or this is the reason of its first test that fails
abbrev pub ReplaysEvent : {X : Type 0} → End → Event → Result X JudgeFault → End → Type 0
ReplaysEvent old event (Ok x) new = Repeats old event new
ReplaysEvent old event (Err (faults.Refused reason)) new = EventTests (end_state old) event reason
ReplaysEvent old event (Err faults.Memory) new = Unit {0}

-- the events are a legal history, which leads to this state and comes to these sums
pub record IsEndOf (opening : Opening) (events : List Event) (end : End) : Type 0 where
  pub legal : IsLegal opening events
  pub state : end_state end ≡ state_of opening events
  pub sums : end.sums ≡ sums_of opening events

-- all events were allowed and repeated, or one is refused
abbrev pub Replays : Opening → List Event → Result End ReplayFault → Type 0
Replays opening events (Ok end) = IsEndOf opening events end
Replays opening events (Err (At index reason)) = Refuses opening events index reason
Replays opening events (Err Memory) = Unit {0}

-- the fault, with the event's index
abbrev pub fault_at : ℕ → JudgeFault → ReplayFault
fault_at index (faults.Refused reason) = At index reason
fault_at index faults.Memory = Memory
