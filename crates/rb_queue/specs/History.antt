-- Which histories are legal: those that one queue in one thread may have.
use Rattle.std.specs.Prelude.{◌≡◌, ℕ, max, List, [], ◌∷◌}
use Rattle.rb_queue.specs.Bag.{bag_from}
use Rattle.rb_queue.specs.Queue.{Queue}
use Rattle.rb_queue.specs.Effect.{effect_of, queue_after}
use Rattle.rb_queue.specs.Calls.{Permits}
use Rattle.rb_queue.specs.declared.event.Event.{Event}
use Rattle.rb_queue.specs.declared.opening.Opening.{Opening}

-- a queue, and the moment of the last event
pub record State : Type 0 where
  pub queue : Queue
  pub moment : ℕ

-- the queue that a run begins with
abbrev pub opening_queue : Opening → Queue
opening_queue opening = record { bag = bag_from opening.elements; next_id = opening.next_id }

-- before the first event
abbrev pub start_of : Opening → State
start_of opening = record { queue = opening_queue opening; moment = opening.last_at }

-- the state that an event leaves
abbrev pub state_after : State → Event → State
state_after state event =
    record { queue = queue_after state.queue (effect_of event.act); moment = event.at }

-- Time does not go back, and the queue may do the act at that moment.
pub record Allows (state : State) (event : Event) : Type 0 where
  pub moment : event.at ≡ max event.asked state.moment
  pub act : Permits state.queue event.at event.act

-- the events are allowed one after the other
abbrev pub AllowsAll : State → List Event → Type 0
AllowsAll state [] = Unit {0}
AllowsAll state (event ∷ events) = Allows state event × AllowsAll (state_after state event) events

-- the state after these events
abbrev pub state_from : State → List Event → State
state_from state [] = state
state_from state (event ∷ events) = state_from (state_after state event) events

-- the state that a history leads to
abbrev pub state_of : Opening → List Event → State
state_of opening history = state_from (start_of opening) history

-- a history is legal if its events are allowed one after the other, from the opening on
abbrev pub IsLegal : Opening → List Event → Type 0
IsLegal opening history = AllowsAll (start_of opening) history
