-- In a legal history no id is offered twice, none leaves twice, and nothing is lost.
use Rattle.std.proofs.Common.{◌≡◌, ◌≢◌, ℕ, suc, ◌+◌, ◌<◌, ◌≤◌, List, [], ◌∷◌, refl, sym, ap, subst, ◌∙◌, arith, Option, Some, None, true, false, cond, inl, inr, ◌⊎◌, length, nat_eq}
use Rattle.std.proofs.lemmas.Bool.Decides.{nat_tests}
use Rattle.std.proofs.lemmas.List.{take_all}
use Rattle.std.proofs.lemmas.List.Sums.{sum_by-cons}
use Rattle.std.specs.Prelude.{IsSome, is_some, sum_by}
use Rattle.std.specs.FinMap as map
use Rattle.rb_delayed.specs.declared.element.Element.{Element}
use Rattle.rb_queue.specs.declared.event.Event.{Event}
use Rattle.rb_queue.specs.declared.opening.Opening.{Opening}
use Rattle.rb_queue.specs.Bag.{Bag, bag_from}
use Rattle.rb_queue.specs.Opening.{ids_of}
use Rattle.rb_queue.specs.Queue.{Queue}
use Rattle.rb_queue.specs.Effect.{Effect, inserts, gives, removes, empties, effect_of, queue_after, inserted, given, removed}
use Rattle.rb_queue.specs.History.{State, start_of, state_after, state_from, AllowsAll}
use Rattle.rb_queue.specs.Counts.{offer_count, give_count, removed_count, cleared_from}
use Rattle.rb_queue.specs.Leaving.{times, standing, offers_of, offer_times, leaving_times_from, IsOfferedOnce, LeavesOnce, IsBalanced}
use Rattle.rb_queue.specs.Filing.{AreBelow}
use Rattle.rb_queue.proofs.Effects.{FitsIn, bit, times_cons, permitted_fits, below_after, standing_after, len_after}
use Rattle.rb_queue.specs.Opening.{AreInOrder}
use Rattle.rb_queue.proofs.Options.{same_or_not}
use Rattle.rb_queue.proofs.Bags.{get_inserted_same, get_inserted_other}
use Rattle.rb_queue.proofs.Queues.{stands_at, below_end}
use Rattle.std.specs.FinMap.{get-empty, len-empty, len-insert}
use Rattle.std.specs.Ordering.{nat_cmp}
use Rattle.std.specs.Cmp.{nat_cmp_total}

-- how often the events offer the id
abbrev offers_in : ℕ → List Event → ℕ
offers_in id events = sum_by (λ event. offers_of id (effect_of event.act)) events

offers_cons : (id : ℕ) (event : Event) (events : List Event) → offers_in id (event ∷ events) ≡ offers_of id (effect_of event.act) + offers_in id events
offers_cons id event events = sum_by-cons (λ e. offers_of id (effect_of e.act)) event events

-- what stood at the start or was offered has left or stands
along : (id : ℕ) (from : State) (events : List Event) → AllowsAll from events → AreBelow from.queue.bag from.queue.next_id
    → standing id from.queue.bag + offers_in id events ≡ leaving_times_from from events id + standing id (state_from from events).queue.bag
along id from [] all below = omega arith
along id from (event ∷ events) all below =
    let fits = permitted_fits from.queue event.at event.act all.0.act in
    let here = standing_after from.queue (effect_of event.act) id fits below in
    let rest = along id (state_after from event) events all.1 (below_after from.queue (effect_of event.act) fits below) in
    omega (arith, here, rest, offers_cons id event events)

-- an effect does not offer an id below the next one, and leaves it below the next one
offers_none : (queue : Queue) (effect : Effect) (id : ℕ) → FitsIn queue effect → id < queue.next_id → (offers_of id effect ≡ 0) × (id < (queue_after queue effect).next_id)
offers_none queue (inserts element) id fits before =
    let differ : element.id ≢ id = λ same. omega (arith, fits, same) in
    let test : nat_eq element.id id ≡ false = grind (arith, nat_tests) in
    (times_cons id element.id [] ∙ omega (arith, ap bit test), omega arith)
offers_none queue (gives ids) id fits before = (refl, before)
offers_none queue (removes ids) id fits before = (refl, before)
offers_none queue empties id fits before = (refl, before)

-- ids below the next one are not offered any more
never_offered : (id : ℕ) (from : State) (events : List Event) → AllowsAll from events → id < from.queue.next_id → offers_in id events ≡ 0
never_offered id from [] all before = refl
never_offered id from (event ∷ events) all before =
    let here = offers_none from.queue (effect_of event.act) id (permitted_fits from.queue event.at event.act all.0.act) before in
    let rest = never_offered id (state_after from event) events all.1 here.1 in
    omega (arith, here.0, rest, offers_cons id event events)

-- an effect offers an id once at most, and then it is below the next one
offers_one : (queue : Queue) (effect : Effect) (id : ℕ) → FitsIn queue effect → (offers_of id effect ≡ 0) ⊎ ((offers_of id effect ≡ 1) × (id < (queue_after queue effect).next_id))
offers_one queue (inserts element) id fits = by_id (same_or_not id element.id)
  where
    by_id : (id ≡ element.id) ⊎ (id ≢ element.id) → (offers_of id (inserts element) ≡ 0) ⊎ ((offers_of id (inserts element) ≡ 1) × (id < queue.next_id + 1))
    by_id (inl same) =
        let test : nat_eq element.id id ≡ true = grind (arith, nat_tests) in
        inr (times_cons id element.id [] ∙ omega (arith, ap bit test), omega (arith, same, fits))
    by_id (inr differ) =
        let test : nat_eq element.id id ≡ false = grind (arith, nat_tests) in
        inl (times_cons id element.id [] ∙ omega (arith, ap bit test))
offers_one queue (gives ids) id fits = inl refl
offers_one queue (removes ids) id fits = inl refl
offers_one queue empties id fits = inl refl

offered_once : (id : ℕ) (from : State) (events : List Event) → AllowsAll from events → offers_in id events ≤ 1
offered_once id from [] all = omega arith
offered_once id from (event ∷ events) all = by_effect (offers_one from.queue (effect_of event.act) id (permitted_fits from.queue event.at event.act all.0.act))
    (offered_once id (state_after from event) events all.1)
  where
    by_effect : (offers_of id (effect_of event.act) ≡ 0) ⊎ ((offers_of id (effect_of event.act) ≡ 1) × (id < (queue_after from.queue (effect_of event.act)).next_id))
        → offers_in id events ≤ 1 → offers_in id (event ∷ events) ≤ 1
    by_effect (inl none) later = omega (arith, none, later, offers_cons id event events)
    by_effect (inr (one, before)) later =
        let never = never_offered id (state_after from event) events all.1 before in
        omega (arith, one, never, offers_cons id event events)

-- the elements behind the first are in order too, and none has its id
rest_order : (first : Element) (rest : List Element) (end : ℕ) → AreInOrder (first ∷ rest) end → AreInOrder rest end
rest_order first rest end order = record {
  rising = λ one other before within. order.rising (suc one) (suc other) (omega arith) (omega arith);
  below = λ place within. order.below (suc place) (omega arith);
}

first_absent : (first : Element) (rest : List Element) (end : ℕ) → AreInOrder (first ∷ rest) end → map.get (bag_from rest) first.id ≡ None
first_absent first rest end order = nothing (map.get (bag_from rest) first.id) refl
  where
    nothing : (o : Option Element) → map.get (bag_from rest) first.id ≡ o → map.get (bag_from rest) first.id ≡ None
    nothing None is = is
    nothing (Some other) is =
        let all = take_all (length rest) rest (omega arith) in
        let there = stands_at rest (length rest) first.id other (ap (λ es. map.get (bag_from es) first.id) all ∙ is) in
        let rises = order.rising 0 (suc there.place) (omega arith) (omega (arith, there.within)) in
        absurd (omega (arith, rises, there.named))

-- each id of an opening stands in its bag, once
standing_opening : (id : ℕ) (elements : List Element) (end : ℕ) → AreInOrder elements end → times id (ids_of elements) ≡ standing id (bag_from elements)
standing_opening id [] end order = sym (ap (λ (o : Option Element). bit (is_some o)) (get-empty {X = Element} nat_cmp id))
standing_opening id (first ∷ rest) end order = by_id (same_or_not id first.id) (standing_opening id rest end (rest_order first rest end order))
  where
    by_id : (id ≡ first.id) ⊎ (id ≢ first.id) → times id (ids_of rest) ≡ standing id (bag_from rest) → times id (ids_of (first ∷ rest)) ≡ standing id (bag_from (first ∷ rest))
    by_id (inl same) later =
        let test : nat_eq first.id id ≡ true = grind (arith, nat_tests) in
        let none : standing id (bag_from rest) ≡ 0 = ap (λ (o : Option Element). bit (is_some o)) (ap (map.get (bag_from rest)) same ∙ first_absent first rest end order) in
        let here : standing id (bag_from (first ∷ rest)) ≡ 1 = ap (λ (o : Option Element). bit (is_some o)) (ap (map.get (bag_from (first ∷ rest))) same ∙ get_inserted_same (bag_from rest) first.id first) in
        omega (arith, times_cons id first.id (ids_of rest), ap bit test, none, here, later)
    by_id (inr differ) later =
        let test : nat_eq first.id id ≡ false = grind (arith, nat_tests) in
        let here : standing id (bag_from (first ∷ rest)) ≡ standing id (bag_from rest) = ap (λ (o : Option Element). bit (is_some o)) (get_inserted_other (bag_from rest) first.id id first differ) in
        omega (arith, times_cons id first.id (ids_of rest), ap bit test, here, later)

len_opening : (elements : List Element) (end : ℕ) → AreInOrder elements end → map.len (bag_from elements) ≡ length elements
len_opening [] end order = len-empty nat_cmp Element
len_opening (first ∷ rest) end order =
    let later = len_opening rest end (rest_order first rest end order) in
    len-insert nat_cmp_total (bag_from rest) first.id first
    ∙ ap (λ (o : Option Element). cond (is_some o) (map.len (bag_from rest)) (map.len (bag_from rest) + 1)) (first_absent first rest end order)
    ∙ omega (arith, later)

-- the ids of an opening are below its next one
pub below_start : (opening : Opening) → AreBelow (start_of opening).queue.bag (start_of opening).queue.next_id
below_start opening =
    let all = take_all (length opening.elements) opening.elements (omega arith) in
    subst (λ es. AreBelow (bag_from es) opening.next_id) all (below_end opening.elements (length opening.elements) opening.next_id opening.opening.order)

at_most_one : (id : ℕ) (bag : Bag) → (standing id bag ≡ 0) ⊎ (IsSome (map.get bag id) × (standing id bag ≡ 1))
at_most_one id bag = by_value (map.get bag id)
  where
    by_value : (o : Option Element) → (bit (is_some o) ≡ 0) ⊎ (IsSome o × (bit (is_some o) ≡ 1))
    by_value None = inl refl
    by_value (Some e) = inr (refl, refl)

pub is_offered_once : IsOfferedOnce
is_offered_once opening history id legal =
    by_standing (at_most_one id (bag_from opening.elements))
  where
    stands : times id (ids_of opening.elements) ≡ standing id (bag_from opening.elements)
    stands = standing_opening id opening.elements opening.next_id opening.opening.order

    by_standing : (standing id (bag_from opening.elements) ≡ 0) ⊎ (IsSome (map.get (bag_from opening.elements) id) × (standing id (bag_from opening.elements) ≡ 1)) → offer_times opening history id ≤ 1
    by_standing (inl none) = let later = offered_once id (start_of opening) history legal in omega (arith, stands, none, later)
    by_standing (inr (present, one)) =
        let never = never_offered id (start_of opening) history legal ((below_start opening).below id present) in
        omega (arith, stands, one, never)

pub leaves_once : LeavesOnce
leaves_once opening history id legal =
    let all = along id (start_of opening) history legal (below_start opening) in
    let once = is_offered_once opening history id legal in
    let stands = standing_opening id opening.elements opening.next_id opening.opening.order in
    omega (arith, all, once, stands)

-- what stood at the start or was offered was given, removed or cleared, or stands: in numbers
len_along : (from : State) (events : List Event) → AllowsAll from events → AreBelow from.queue.bag from.queue.next_id
    → map.len from.queue.bag + offer_count events ≡ give_count events + removed_count events + cleared_from from events + map.len (state_from from events).queue.bag
len_along from [] all below = omega arith
len_along from (event ∷ events) all below =
    let fits = permitted_fits from.queue event.at event.act all.0.act in
    let here = len_after from.queue (effect_of event.act) fits below in
    let rest = len_along (state_after from event) events all.1 (below_after from.queue (effect_of event.act) fits below) in
    omega (
      arith,
      here,
      rest,
      sum_by-cons (λ (e : Event). length (inserted (effect_of e.act))) event events,
      sum_by-cons (λ (e : Event). length (given (effect_of e.act))) event events,
      sum_by-cons (λ (e : Event). length (removed (effect_of e.act))) event events,
    )

pub is_balanced : IsBalanced
is_balanced opening history legal =
    let all = len_along (start_of opening) history legal (below_start opening) in
    let start = len_opening opening.elements opening.next_id opening.opening.order in
    omega (arith, all, start)
