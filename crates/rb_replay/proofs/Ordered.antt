-- The elements that stand, in the order of their ids.
use Rattle.std.proofs.Common.{◌≡◌, ℕ, zero, suc, ◌+◌, ◌<◌, ◌≤◌, ◌⊎◌, inl, inr, List, [], ◌∷◌, length, get_or, refl, sym, ap, subst, ◌∙◌, arith, cond, Option, Some, None}
use Rattle.std.proofs.lemmas.List.{length-map}
use Rattle.std.proofs.lemmas.Map.Keys.{below_from_sorted, sorted_head, sorted_tail}
use Rattle.std.proofs.lemmas.Bool.{cases_lt}
use Rattle.std.specs.List.{AllByRecursion}
use Rattle.std.specs.declared.cmp.Ordering.TheVariants.{Less}
use Rattle.std.specs.Prelude.{map as each, is_some}
use Rattle.std.specs.List.Sorted.{IsStrictlySortedBy}
use Rattle.std.specs.Ordering.{nat_cmp, eq_by_cmp, is_eq}
use Rattle.std.specs.Cmp.{nat_cmp_total}
use Rattle.std.specs.FinMap as map
use Rattle.std.specs.FinMap.{find, get-from_entries}
use Rattle.std.specs.BTreeMap.{BTreeMap, is_at}
use Rattle.std.specs.BTreeMap as tree
use Rattle.std.specs.Map.{lookup, keys_of, values_of}
use Rattle.rb_delayed.specs.declared.element.Element.{Element}
use Rattle.rb_queue.specs.Bag.{Bag, bag_from}
use Rattle.rb_queue.specs.Opening.{ids_of, AreInOrder, IsOpening}
use Rattle.rb_queue.specs.History.{State}
use Rattle.rb_queue.specs.declared.opening.TheConstants.{MOST_OPENING_ELEMENTS, GREATEST_OPENING_ID}
use Rattle.rb_replay.specs.Opens.{IsTooLarge}
use Rattle.rb_queue.proofs.Bags.{same_bag}
use Rattle.rb_replay.specs.ReplayedQueue.{AreFiled, HasElements}

-- each entry is that of its element's id
entries_back : (end : ℕ) (entries : List (ℕ × Element)) → AreFiled end entries → each (λ (e : Element). (e.id, e)) (values_of entries) ≡ entries
entries_back end [] filed = refl
entries_back end ((id, element) ∷ entries) filed = λ i. (filed.0 i, element) ∷ entries_back end entries filed.2 i

keys_back : (end : ℕ) (entries : List (ℕ × Element)) → AreFiled end entries → ids_of (values_of entries) ≡ keys_of entries
keys_back end [] filed = refl
keys_back end ((id, element) ∷ entries) filed = λ i. filed.0 i ∷ keys_back end entries filed.2 i

-- the two ways to look an id up
found : (id : ℕ) (entries : List (ℕ × Element)) → find nat_cmp id entries ≡ lookup (is_at (nat_cmp id)) entries
found id [] = refl
found id (entry ∷ entries) = ap (cond (eq_by_cmp nat_cmp id entry.0) (Some entry.1)) (found id entries)

-- the elements make the bag
pub bag_of_values : (bag : Bag) (end : ℕ) (elements : BTreeMap ℕ Element) → HasElements bag end elements → (items : List Element) → items ≡ tree.values elements → bag_from items ≡ bag
bag_of_values bag end elements has items is = same_bag (bag_from items) bag (λ id.
    get-from_entries nat_cmp_total (each (λ (e : Element). (e.id, e)) items) id
    ∙ ap (find nat_cmp id) (ap (each (λ (e : Element). (e.id, e))) is ∙ entries_back end elements.entries has.filed)
    ∙ found id elements.entries ∙ has.same id)

-- keys of filed entries are below the end
below_at : (end : ℕ) (entries : List (ℕ × Element)) (place : ℕ) → AreFiled end entries → place < length (keys_of entries) → get_or (keys_of entries) place 0 < end
below_at end [] place filed within = absurd (omega arith)
below_at end ((id, element) ∷ entries) zero filed within = filed.1
below_at end ((id, element) ∷ entries) (suc place) filed within = below_at end entries place filed.2 (omega arith)

-- and stand in order
pub values_in_order : (bag : Bag) (end : ℕ) (elements : BTreeMap ℕ Element) → HasElements bag end elements → tree.IsOrdered nat_cmp elements
    → (items : List Element) → items ≡ tree.values elements → AreInOrder items end
values_in_order bag end elements has ordered items is =
    let same : ids_of items ≡ keys_of elements.entries = ap ids_of is ∙ keys_back end elements.entries has.filed in
    let counted : length items ≡ length (keys_of elements.entries) = sym (length-map items (λ (e : Element). e.id)) ∙ ap length same in
    record {
      rising = λ one other before within.
          subst (λ ids. get_or ids one 0 < get_or ids other 0) (sym same)
          (below_from_sorted (keys_of elements.entries) one other 0 ordered before (omega (arith, within, counted)));
      below = λ place within. subst (λ ids. get_or ids place 0 < end) (sym same) (below_at end elements.entries place has.filed (omega (arith, within, counted)));
    }

-- an id that is below all of these is not among them
absent_below : (id : ℕ) (entries : List (ℕ × Element)) → AllByRecursion (λ y. nat_cmp id y ≡ Less) (keys_of entries) → find nat_cmp id entries ≡ None
absent_below id [] below = refl
absent_below id (entry ∷ entries) below =
    ap (λ order. cond (is_eq order) (Some entry.1) (find nat_cmp id entries)) below.0 ∙ absent_below id entries below.1

-- so each entry counts
len_sorted : (entries : List (ℕ × Element)) → IsStrictlySortedBy nat_cmp (keys_of entries) → map.len (map.from_entries {R = nat_cmp} entries) ≡ length entries
len_sorted [] sorted = map.len-empty nat_cmp Element
len_sorted (entry ∷ entries) sorted =
    let rest = len_sorted entries (sorted_tail nat_cmp entry.0 (keys_of entries) sorted) in
    let absent : map.get (map.from_entries {R = nat_cmp} entries) entry.0 ≡ None =
    get-from_entries nat_cmp_total entries entry.0 ∙ absent_below entry.0 entries (sorted_head nat_cmp entry.0 (keys_of entries) sorted) in
    map.len-insert nat_cmp_total (map.from_entries {R = nat_cmp} entries) entry.0 entry.1
    ∙ ap (λ (o : Option Element). cond (is_some o) (map.len (map.from_entries {R = nat_cmp} entries)) (map.len (map.from_entries {R = nat_cmp} entries) + 1)) absent
    ∙ omega (arith, rest)

-- the bag has as many elements as stand in the list
pub values_counted : (bag : Bag) (end : ℕ) (elements : BTreeMap ℕ Element) → HasElements bag end elements → tree.IsOrdered nat_cmp elements
    → (items : List Element) → items ≡ tree.values elements → length items ≡ map.len bag
values_counted bag end elements has ordered items is =
    let entries : each (λ (e : Element). (e.id, e)) items ≡ elements.entries =
    ap (each (λ (e : Element). (e.id, e))) is ∙ entries_back end elements.entries has.filed in
    sym (length-map items (λ (e : Element). (e.id, e))) ∙ ap length entries ∙ sym (len_sorted elements.entries ordered)
    ∙ sym (ap (λ es. map.len (map.from_entries {R = nat_cmp} es)) entries) ∙ ap map.len (bag_of_values bag end elements has items is)

-- elements in order that no opening has are too many, or have too great a next id
pub too_large : (items : List Element) (state : State) (next : ℕ) → AreInOrder items next → length items ≡ map.len state.queue.bag → next ≡ state.queue.next_id
    → ¬ IsOpening items next → IsTooLarge state
too_large items state next order counted same none = by_count (cases_lt MOST_OPENING_ELEMENTS (length items)) (cases_lt GREATEST_OPENING_ID next)
  where
    by_count : (MOST_OPENING_ELEMENTS < length items) ⊎ (length items ≤ MOST_OPENING_ELEMENTS) → (GREATEST_OPENING_ID < next) ⊎ (next ≤ GREATEST_OPENING_ID) → IsTooLarge state
    by_count (inl many) last = inl (omega (arith, many, counted))
    by_count (inr few) (inl great) = inr (omega (arith, great, same))
    by_count (inr few) (inr small) = absurd (none (record { order = order; few = few; next = small }))
