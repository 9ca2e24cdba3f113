-- What jobs count for, by the origin that their elements share: those that wait in a queue, and those that its events
-- remove or clear away.
use Rattle.std.specs.Prelude.{ℕ, zero, suc, ◌+◌, List, [], ◌∷◌, sum_by, Option, None, Some}
use Rattle.std.specs.FinMap as map
use Rattle.rb_delayed.specs.declared.element.Element.{Element}
use Rattle.rb_queue.specs.Bag.{Bag}
use Rattle.rb_queue.specs.Effect.{effect_of, removed, cleared}
use Rattle.rb_queue.specs.History.{State, start_of, state_after}
use Rattle.rb_queue.specs.Queue.{Queue}
use Rattle.rb_queue.specs.declared.event.Event.{Event}
use Rattle.rb_queue.specs.declared.opening.Opening.{Opening}

-- the sum of the amounts of these elements' jobs
abbrev pub origins_sum : (ℕ → ℕ) → List Element → ℕ
origins_sum amount elements = sum_by (λ element. amount element.origin) elements

-- the amount of a job, if there is an element of it
abbrev pub amount_of : (ℕ → ℕ) → Option Element → ℕ
amount_of amount None = 0
amount_of amount (Some element) = amount element.origin

-- the amount of the job whose element has this id in the bag
abbrev pub amount_at : (ℕ → ℕ) → Bag → ℕ → ℕ
amount_at amount bag id = amount_of amount (map.get bag id)

abbrev pub sum_below : (ℕ → ℕ) → ℕ → ℕ
sum_below at zero = 0
sum_below at (suc end) = sum_below at end + at end

-- of all jobs that wait in a queue
abbrev pub waiting_sum : (ℕ → ℕ) → Queue → ℕ
waiting_sum amount queue = sum_below (amount_at amount queue.bag) queue.next_id

-- of those that the events remove, from this state on
abbrev pub removed_sum_from : (ℕ → ℕ) → State → List Event → ℕ
removed_sum_from amount state [] = 0
removed_sum_from amount state (event ∷ events) =
    sum_by (amount_at amount state.queue.bag) (removed (effect_of event.act))
    + removed_sum_from amount (state_after state event) events

abbrev pub removed_sum : (ℕ → ℕ) → Opening → List Event → ℕ
removed_sum amount opening history = removed_sum_from amount (start_of opening) history

-- of those that they clear away
abbrev pub cleared_sum_from : (ℕ → ℕ) → State → List Event → ℕ
cleared_sum_from amount state [] = 0
cleared_sum_from amount state (event ∷ events) =
    cleared (effect_of event.act) (waiting_sum amount state.queue) + cleared_sum_from amount (state_after state event) events

abbrev pub cleared_sum : (ℕ → ℕ) → Opening → List Event → ℕ
cleared_sum amount opening history = cleared_sum_from amount (start_of opening) history
