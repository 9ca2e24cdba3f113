-- The ids of a queue's bag stay below the next one, and what the store does is what the queue may do.
use Rattle.std.proofs.Common.{◌≡◌, ◌≢◌, ℕ, zero, suc, ◌+◌, ◌<◌, List, [], ◌∷◌, ◌++◌, length, take, refl, sym, ap, subst, ◌∙◌, arith, Bool, Option, Some, None, true, false, inl, inr, ◌⊎◌}
use Rattle.std.specs.Prelude.{IfSome, IfNone, IsSome, is_some, slice_index, map as each}
use Rattle.std.specs.FinMap as map
use Rattle.std.specs.FinMap.{get-empty, get-from_entries, from_entries_push, nat_cmp-IsAntisymmetric}
use Rattle.std.specs.Ordering.{nat_cmp}
use Rattle.std.specs.Cmp.{nat_cmp_total}
use Rattle.std.proofs.Common.{get_or}
use Rattle.std.proofs.lemmas.List.{take_more, map-append}
use Rattle.rb_delayed.specs.declared.element.Element.{Element}
use Rattle.rb_queue.specs.declared.act.Act.TheVariants as acts
use Rattle.rb_queue.specs.Bag.{Bag, bag_from}
use Rattle.rb_queue.specs.Opening.{ids_of, AreInOrder}
use Rattle.rb_queue.specs.Queue.{Queue}
use Rattle.rb_queue.specs.Effect.{effect_of, queue_after}
use Rattle.rb_queue.specs.Calls.{Acts}
use Rattle.rb_queue.specs.Filing.{AreBelow}
use Rattle.rb_queue.proofs.Options.{same_or_not}
use Rattle.rb_queue.proofs.Bags.{get_inserted_other, get_removed_same, get_removed_other, remove_absent}

-- no id is below the next one in the empty bag, and an insert under the next id or a removal keeps them so
pub below_empty : (next : ℕ) → AreBelow map.empty next
below_empty next = record { below = λ id present. let none = get-empty {X = Element} nat_cmp id in absurd (cc) }

pub below_insert : (bag : Bag) (next : ℕ) (element : Element) → AreBelow bag next → element.id ≡ next → AreBelow (map.insert bag element.id element) (next + 1)
below_insert bag next element all named = record { below = λ id present. by_id id present (same_or_not id element.id) }
  where
    by_id : (id : ℕ) → IsSome (map.get (map.insert bag element.id element) id) → (id ≡ element.id) ⊎ (id ≢ element.id) → id < next + 1
    by_id id present (inl same) = omega (arith, same, named)
    by_id id present (inr differ) =
        let there = all.below id (sym (ap is_some (get_inserted_other bag element.id id element differ)) ∙ present) in
        omega (arith, there)

pub below_remove : (bag : Bag) (next id : ℕ) → AreBelow bag next → AreBelow (map.remove bag id) next
below_remove bag next id all = record { below = λ other present. by_id other present (same_or_not other id) }
  where
    by_id : (other : ℕ) → IsSome (map.get (map.remove bag id) other) → (other ≡ id) ⊎ (other ≢ id) → other < next
    by_id other present (inl same) =
        let gone : map.get (map.remove bag id) other ≡ None = ap (map.get (map.remove bag id)) same ∙ get_removed_same bag id in absurd (cc)
    by_id other present (inr differ) =
        all.below other (sym (ap is_some (get_removed_other bag id other differ)) ∙ present)

-- the bag has nothing under the next id
pub next_absent : (bag : Bag) (next : ℕ) → AreBelow bag next → map.get bag next ≡ None
next_absent bag next all = nothing (map.get bag next) refl
  where
    nothing : (o : Option Element) → map.get bag next ≡ o → map.get bag next ≡ None
    nothing None is = is
    nothing (Some element) is = absurd (omega (arith, all.below next (ap is_some is)))

-- what a poll of the store leaves has its ids below the next one
pub below_polled : (given : Option Element) (old new : Bag) (next : ℕ) → AreBelow old next → IfSome given (λ element. new ≡ map.remove old element.id) → IfNone given (new ≡ old) → AreBelow new next
below_polled None old new next all removed same = subst (λ bag. AreBelow bag next) (sym same) all
below_polled (Some element) old new next all removed same = subst (λ bag. AreBelow bag next) (sym removed) (below_remove old next element.id all)

-- some element among the first has the id, and it is one of the list
pub record StandsAt (elements : List Element) (n id : ℕ) : Type 0 where
  pub place : ℕ
  pub before : place < n
  pub within : place < length elements
  pub named : slice_index (ids_of elements) place ≡ id

-- where the bag of the first n elements has an element of the id, one of these has it
pub stands_at : (elements : List Element) (n id : ℕ) (element : Element) → map.get (bag_from (take n elements)) id ≡ Some element → StandsAt elements n id
stands_at elements zero id element found = let none = get-empty {X = Element} nat_cmp id in absurd (cc)
stands_at [] (suc n) id element found = let none = get-empty {X = Element} nat_cmp id in absurd (cc)
stands_at (first ∷ rest) (suc n) id element found = by_id (same_or_not id first.id)
    (λ differ. stands_at rest n id element (sym (get_inserted_other (bag_from (take n rest)) first.id id first differ) ∙ found))
  where
    by_id : (id ≡ first.id) ⊎ (id ≢ first.id) → ((id ≢ first.id) → StandsAt rest n id) → StandsAt (first ∷ rest) (suc n) id
    by_id (inl same) later = record { place = 0; before = omega arith; within = omega arith; named = sym same }
    by_id (inr differ) later =
        let there = later differ in
        record { place = suc there.place; before = omega (arith, there.before); within = omega (arith, there.within); named = there.named }

-- the element at a place, of elements in order, has an id that those before it lack
pub absent_before : (elements : List Element) (end place : ℕ) (element : Element) → AreInOrder elements end → place < length elements → slice_index (ids_of elements) place ≡ element.id
    → map.get (bag_from (take place elements)) element.id ≡ None
absent_before elements end place element order within named = nothing (map.get (bag_from (take place elements)) element.id) refl
  where
    nothing : (o : Option Element) → map.get (bag_from (take place elements)) element.id ≡ o → map.get (bag_from (take place elements)) element.id ≡ None
    nothing None is = is
    nothing (Some other) is =
        let there = stands_at elements place element.id other is in
        absurd (omega (arith, order.rising there.place place there.before within, there.named, named))

-- the bag of one element more
pub bag_from-more : (elements : List Element) (place : ℕ) (element : Element) → place < length elements → element ≡ get_or elements place element
    → map.get (bag_from (take place elements)) element.id ≡ None → bag_from (take (place + 1) elements) ≡ map.insert (bag_from (take place elements)) element.id element
bag_from-more elements place element within is absent =
    ap bag_from (take_more elements place element within ∙ ap (λ e. take place elements ++ e ∷ []) (sym is))
    ∙ ap map.from_entries (map-append (λ (e : Element). (e.id, e)) (take place elements) (element ∷ []))
    ∙ from_entries_push nat_cmp_total nat_cmp-IsAntisymmetric (each (λ (e : Element). (e.id, e)) (take place elements)) element.id element
    (sym (get-from_entries nat_cmp_total (each (λ (e : Element). (e.id, e)) (take place elements)) element.id) ∙ absent)

-- the ids of the first elements in order are below the end
pub below_end : (elements : List Element) (n end : ℕ) → AreInOrder elements end → AreBelow (bag_from (take n elements)) end
below_end elements n end order = record { below = λ id present. of_value id (map.get (bag_from (take n elements)) id) refl present }
  where
    of_value : (id : ℕ) (o : Option Element) → map.get (bag_from (take n elements)) id ≡ o → IsSome (map.get (bag_from (take n elements)) id) → id < end
    of_value id None is present = absurd (cc)
    of_value id (Some element) is present =
        let there = stands_at elements n id element is in
        omega (arith, order.below there.place there.within, there.named)

-- what a removal by id tells
pub removes : (queue : Queue) (id : ℕ) (taken : Option Element) (new : Bag) (found : Bool) → taken ≡ map.get queue.bag id → new ≡ map.remove queue.bag id → found ≡ is_some taken
    → (now : ℕ) → Acts queue now (acts.Remove id found) (record queue { bag = new })
removes queue id taken new found is removed tells now = record {
  permitted = ((λ yes. ap is_some (sym is) ∙ sym tells ∙ yes), (λ present. tells ∙ ap is_some is ∙ present));
  after = by_found found (tells ∙ ap is_some is);
}
  where
    by_found : (test : Bool) → test ≡ is_some (map.get queue.bag id) → record queue { bag = new } ≡ queue_after queue (effect_of (acts.Remove id test))
    by_found true same = ap (λ bag. record queue { bag = bag }) removed
    by_found false same = ap (λ bag. record queue { bag = bag }) (removed ∙ remove_absent queue.bag id (no_value (map.get queue.bag id) (sym same)))
      where
        no_value : (o : Option Element) → is_some o ≡ false → o ≡ None
        no_value None is = refl
        no_value (Some e) is = absurd (cc)

-- the id of the element that was read at a place
pub named_at : (elements : List Element) (place : ℕ) (element : Element) → place < length elements → element ≡ get_or elements place element → slice_index (ids_of elements) place ≡ element.id
named_at (first ∷ rest) zero element within is = ap (λ (e : Element). e.id) (sym is)
named_at (first ∷ rest) (suc place) element within is = named_at rest place element (omega arith) is
named_at [] place element within is = absurd (omega arith)
