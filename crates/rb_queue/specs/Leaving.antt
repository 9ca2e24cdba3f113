-- How often an id comes into the queue, and how often it leaves.
use Rattle.std.specs.Prelude.{◌≡◌, ℕ, ◌+◌, ◌≤◌, ◌==◌, List, [], ◌∷◌, length, sum_by, count_by, is_some, if◌then◌else◌}
use Rattle.std.specs.FinMap as map
use Rattle.rb_queue.specs.Bag.{Bag}
use Rattle.rb_queue.specs.Opening.{ids_of}
use Rattle.rb_queue.specs.Effect.{Effect, inserts, gives, removes, empties, effect_of, inserted}
use Rattle.rb_queue.specs.History.{State, start_of, state_after, IsLegal}
use Rattle.rb_queue.specs.Counts.{offer_count, give_count, removed_count, cleared_count, left_count}
use Rattle.rb_queue.specs.declared.event.Event.{Event}
use Rattle.rb_queue.specs.declared.opening.Opening.{Opening}

-- how often the id is among these
abbrev pub times : ℕ → List ℕ → ℕ
times id ids = count_by (λ one. one == id) ids

-- how often the id is in the bag: once or not at all
abbrev pub standing : ℕ → Bag → ℕ
standing id bag = if is_some (map.get bag id) then 1 else 0

-- how often the id comes in with an effect
abbrev pub offers_of : ℕ → Effect → ℕ
offers_of id effect = times id (ids_of (inserted effect))

-- how often the id leaves a bag with an effect
abbrev pub leavings_of : ℕ → Bag → Effect → ℕ
leavings_of id bag (inserts element) = 0
leavings_of id bag (gives ids) = times id ids
leavings_of id bag (removes ids) = times id ids
leavings_of id bag empties = standing id bag

-- how often the id is offered; an element of the opening counts as offered once
abbrev pub offer_times : Opening → List Event → ℕ → ℕ
offer_times opening history id =
    times id (ids_of opening.elements) + sum_by (λ event. offers_of id (effect_of event.act)) history

-- how often the id leaves by the events, from this state on
abbrev pub leaving_times_from : State → List Event → ℕ → ℕ
leaving_times_from state [] id = 0
leaving_times_from state (event ∷ events) id =
    leavings_of id state.queue.bag (effect_of event.act) + leaving_times_from (state_after state event) events id

-- how often the id leaves in a history
abbrev pub leaving_times : Opening → List Event → ℕ → ℕ
leaving_times opening history id = leaving_times_from (start_of opening) history id

-- No id is offered twice.
abbrev pub IsOfferedOnce : Type 0
IsOfferedOnce =
    (opening : Opening) (history : List Event) (id : ℕ) → IsLegal opening history
    → offer_times opening history id ≤ 1

-- No id leaves twice.
abbrev pub LeavesOnce : Type 0
LeavesOnce =
    (opening : Opening) (history : List Event) (id : ℕ) → IsLegal opening history
    → leaving_times opening history id ≤ 1

-- Nothing is lost: what came in was given, removed or cleared, or is left.
abbrev pub IsBalanced : Type 0
IsBalanced =
    (opening : Opening) (history : List Event) → IsLegal opening history
    → offer_count history + length opening.elements
    ≡ give_count history + removed_count history + cleared_count opening history + left_count opening history
