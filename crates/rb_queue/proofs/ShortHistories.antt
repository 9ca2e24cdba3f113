-- What a history of at most 1,000,000 events comes to, and that the sums over it are exact.
use Rattle.std.proofs.Common.{◌≡◌, ℕ, ◌+◌, ◌≤◌, List, [], ◌∷◌, ◌++◌, arith, length}
use Rattle.std.proofs.lemmas.List.Sums.{sum_by-cons, sum_by_push}
use Rattle.std.specs.Prelude.{sum_by}
use Rattle.std.specs.FinMap as map
use Rattle.rb_queue.specs.declared.event.Event.{Event}
use Rattle.rb_queue.specs.declared.opening.Opening.{Opening}
use Rattle.rb_queue.specs.declared.sums.Sums.{Sums}
use Rattle.rb_queue.specs.Queue.{Queue}
use Rattle.rb_queue.specs.Effect.{Effect, inserts, gives, removes, empties, effect_of, inserted, removed, cleared}
use Rattle.rb_queue.specs.History.{State, start_of, state_after, state_from, state_of, IsLegal}
use Rattle.rb_queue.specs.Counts.{offer_count, give_count, removed_count, cleared_from, cleared_count, sums_of, sum_in_word, sums_with}
use Rattle.rb_queue.proofs.Leavings.{is_balanced}

-- what is one for each event at most comes to no more than their number
each_once : (f : Event → ℕ) → ((event : Event) → f event ≤ 1) → (history : List Event) → sum_by f history ≤ length history
each_once f once [] = omega arith
each_once f once (event ∷ history) = omega (arith, each_once f once history, once event, sum_by-cons f event history)

offers_once : (effect : Effect) → length (inserted effect) ≤ 1
offers_once (inserts element) = omega arith
offers_once (gives ids) = omega arith
offers_once (removes ids) = omega arith
offers_once empties = omega arith

-- each count is far from the greatest number
pub record AreFew (opening : Opening) (history : List Event) : Type 0 where
  pub offered : offer_count history ≤ 1_000_000
  pub given : give_count history ≤ 2_000_000
  pub removed : removed_count history ≤ 2_000_000
  pub cleared : cleared_count opening history ≤ 2_000_000

pub are_few : (opening : Opening) (history : List Event) → IsLegal opening history → length history ≤ 1_000_000 → AreFew opening history
are_few opening history legal few =
    let offers = each_once (λ e. length (inserted (effect_of e.act))) (λ e. offers_once (effect_of e.act)) history in
    let all = is_balanced opening history legal in
    let most : length opening.elements ≤ 1_000_000 = opening.opening.few in
    record {
      offered = omega (arith, offers, few);
      given = omega (arith, all, offers, few, most);
      removed = omega (arith, all, offers, few, most);
      cleared = omega (arith, all, offers, few, most);
    }

-- one event more clears what it clears in the state before it
cleared_push : (from : State) (history : List Event) (event : Event)
    → cleared_from from (history ++ event ∷ []) ≡ cleared_from from history + cleared (effect_of event.act) (map.len (state_from from history).queue.bag)
cleared_push from [] event = omega arith
cleared_push from (first ∷ history) event = omega (arith, cleared_push (state_after from first) history event)

-- the sums with one event more are those over the history with it
pub sums_more : (opening : Opening) (history : List Event) (event : Event) (queue : Queue) (sums : Sums)
    → IsLegal opening (history ++ event ∷ []) → length (history ++ event ∷ []) ≤ 1_000_000 → (state_of opening history).queue ≡ queue → sums ≡ sums_of opening history
    → sums_with sums event.act (map.len queue.bag) ≡ sums_of opening (history ++ event ∷ [])
sums_more opening history event queue sums legal few leads summed =
    let all = are_few opening (history ++ event ∷ []) legal few in
    let removals : sum_in_word (removed_count history) (length (removed (effect_of event.act))) ≡ removed_count (history ++ event ∷ []) =
    omega (arith, sum_by_push (λ e. length (removed (effect_of e.act))) history event, all.removed) in
    let clearings : sum_in_word (cleared_count opening history) (cleared (effect_of event.act) (map.len (state_of opening history).queue.bag)) ≡ cleared_count opening (history ++ event ∷ []) =
    omega (arith, cleared_push (start_of opening) history event, all.cleared) in
    rw (← leads, summed) (λ i. record { removed = removals i; cleared = clearings i })
