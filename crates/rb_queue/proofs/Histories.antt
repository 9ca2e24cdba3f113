-- A legal history goes on by one event, which gives out an id at most.
use Rattle.std.proofs.Common.{◌≡◌, ◌+◌, ◌≤◌, refl, arith, List, [], ◌∷◌, ◌++◌, length}
use Rattle.rb_queue.specs.declared.event.Event.{Event}
use Rattle.rb_queue.specs.declared.opening.Opening.{Opening}
use Rattle.rb_queue.specs.Effect.{Effect, inserts, gives, removes, empties, effect_of, queue_after}
use Rattle.rb_queue.specs.History.{State, start_of, state_after, state_from, state_of, Allows, AllowsAll, IsLegal}

-- one event more is one step more
pub state_from-append : (from : State) (events : List Event) (event : Event) → state_from from (events ++ event ∷ []) ≡ state_after (state_from from events) event
state_from-append from [] event = refl
state_from-append from (first ∷ events) event = state_from-append (state_after from first) events event

pub AllowsAll-append : (from : State) (events : List Event) (event : Event) → AllowsAll from events → Allows (state_from from events) event → AllowsAll from (events ++ event ∷ [])
AllowsAll-append from [] event all allowed = (allowed, tt)
AllowsAll-append from (first ∷ events) event all allowed = (all.0, AllowsAll-append (state_after from first) events event all.1 allowed)

-- an event that its state allows makes a legal history longer
pub legal_next : (opening : Opening) (history : List Event) (event : Event) → IsLegal opening history → Allows (state_of opening history) event → IsLegal opening (history ++ event ∷ [])
legal_next opening history event legal allowed = AllowsAll-append (start_of opening) history event legal allowed

-- an id is given out for each event at most
pub next_id_few : (from : State) (events : List Event) → (state_from from events).queue.next_id ≤ from.queue.next_id + length events
next_id_few from [] = omega arith
next_id_few from (event ∷ events) = omega (arith, next_id_few (state_after from event) events, one (effect_of event.act))
  where
    one : (effect : Effect) → (queue_after from.queue effect).next_id ≤ from.queue.next_id + 1
    one (inserts element) = omega arith
    one (gives ids) = omega arith
    one (removes ids) = omega arith
    one empties = omega arith
