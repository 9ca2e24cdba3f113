-- The events of one seat, the counts of a history, and the sums that are kept beside it.
use Rattle.std.specs.Prelude.{ℕ, ◌+◌, ◌-◌, ◌^◌, ◌==◌, min, List, [], ◌∷◌, length, filter, sum_by}
use Rattle.std.specs.FinMap as map
use Rattle.rb_queue.specs.Effect.{effect_of, inserted, given, removed, cleared}
use Rattle.rb_queue.specs.History.{State, start_of, state_after, state_of}
use Rattle.rb_queue.specs.declared.act.Act.{Act}
use Rattle.rb_queue.specs.declared.audit.Audit.{Audit}
use Rattle.rb_queue.specs.declared.event.Event.{Event}
use Rattle.rb_queue.specs.declared.opening.Opening.{Opening}
use Rattle.rb_queue.specs.declared.sums.Sums.{Sums}

-- the events of one seat, in order
abbrev pub events_of : List Event → ℕ → List Event
events_of history seat = filter (λ event. event.seat == seat) history

abbrev pub call_count : List Event → ℕ
call_count history = length history

abbrev pub offer_count : List Event → ℕ
offer_count history = sum_by (λ event. length (inserted (effect_of event.act))) history

abbrev pub give_count : List Event → ℕ
give_count history = sum_by (λ event. length (given (effect_of event.act))) history

abbrev pub removed_count : List Event → ℕ
removed_count history = sum_by (λ event. length (removed (effect_of event.act))) history

-- how many elements the events clear away, from this state on
abbrev pub cleared_from : State → List Event → ℕ
cleared_from state [] = 0
cleared_from state (event ∷ events) =
    cleared (effect_of event.act) (map.len state.queue.bag) + cleared_from (state_after state event) events

abbrev pub cleared_count : Opening → List Event → ℕ
cleared_count opening history = cleared_from (start_of opening) history

-- how many elements are in the bag that the history leads to
abbrev pub left_count : Opening → List Event → ℕ
left_count opening history = map.len (state_of opening history).queue.bag

abbrev pub audit_of : Opening → List Event → Audit
audit_of opening history = record {
  calls = call_count history;
  offered = offer_count history;
  given = give_count history;
  removed = removed_count history;
  cleared = cleared_count opening history;
  left = left_count opening history;
  opening = length opening.elements;
}

-- the sums over a history
abbrev pub sums_of : Opening → List Event → Sums
sums_of opening history =
    record { removed = removed_count history; cleared = cleared_count opening history }

-- the sum, or the greatest number in 64 bits if that is less
abbrev pub sum_in_word : ℕ → ℕ → ℕ
sum_in_word one other = min (one + other) (2 ^ 64 - 1)

-- the sums with one act more, before which this many elements were in the queue
abbrev pub sums_with : Sums → Act → ℕ → Sums
sums_with sums act count = record {
  removed = sum_in_word sums.removed (length (removed (effect_of act)));
  cleared = sum_in_word sums.cleared (cleared (effect_of act) count);
}
