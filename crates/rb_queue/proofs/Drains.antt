-- Heads that are taken one after the other: a drain, as far as it has come.
use Rattle.std.proofs.Common.{◌≡◌, ◌≢◌, ℕ, zero, suc, ◌+◌, ◌-◌, ◌<◌, ◌≤◌, List, [], ◌∷◌, ◌++◌, length, length-append, refl, sym, ap, subst, ◌∙◌, arith, Option, Some, None, cond, inl, inr, ◌⊎◌}
use Rattle.std.proofs.lemmas.List.{map-append, length-map}
use Rattle.std.proofs.lemmas.Option.{same_Some}
use Rattle.std.specs.Prelude.{is_some, option_map, option_and_then}
use Rattle.std.specs.FinMap as map
use Rattle.std.specs.FinMap.{get-empty, len-remove}
use Rattle.std.specs.Ordering.{nat_cmp}
use Rattle.std.specs.Cmp.{nat_cmp_total}
use Rattle.rb_delayed.specs.declared.element.Element.{Element}
use Rattle.rb_queue.specs.declared.act.Act.TheVariants as acts
use Rattle.rb_queue.specs.Bag.{Bag, NoneExpired, without}
use Rattle.rb_queue.specs.Opening.{ids_of}
use Rattle.rb_queue.specs.Head.{IsHeadId}
use Rattle.rb_queue.specs.Queue.{Queue}
use Rattle.rb_queue.specs.Calls.{Acts, AreHeads}
use Rattle.rb_queue.specs.Replies.{elements_in}
use Rattle.rb_queue.proofs.Options.{same_or_not}
use Rattle.rb_queue.proofs.Bags.{get_removed_same, get_removed_other}

-- one id more is one removal more
pub without-append : (bag : Bag) (ids : List ℕ) (id : ℕ) → without bag (ids ++ id ∷ []) ≡ map.remove (without bag ids) id
without-append bag [] id = refl
without-append bag (first ∷ ids) id = without-append (map.remove bag first) ids id

pub AreHeads-append : (bag : Bag) (now : ℕ) (ids : List ℕ) (id : ℕ) → AreHeads bag now ids → IsHeadId (without bag ids) now id → AreHeads bag now (ids ++ id ∷ [])
AreHeads-append bag now [] id heads next = (next, tt)
AreHeads-append bag now (first ∷ ids) id heads next = (heads.0, AreHeads-append (map.remove bag first) now ids id heads.1 next)

-- what is left was there before
pub without_kept : (bag : Bag) (ids : List ℕ) (id : ℕ) (element : Element) → map.get (without bag ids) id ≡ Some element → map.get bag id ≡ Some element
without_kept bag [] id element found = found
without_kept bag (first ∷ ids) id element found = by_id (same_or_not id first) (without_kept (map.remove bag first) ids id element found)
  where
    by_id : (id ≡ first) ⊎ (id ≢ first) → map.get (map.remove bag first) id ≡ Some element → map.get bag id ≡ Some element
    by_id (inl same) there = let gone : map.get (map.remove bag first) id ≡ None = ap (map.get (map.remove bag first)) same ∙ get_removed_same bag first in absurd (cc)
    by_id (inr differ) there = sym (get_removed_other bag first id differ) ∙ there

found_more : (here : Option Element) (rest more : Option (List Element)) (elements : List Element) (element : Element) → ((es : List Element) → rest ≡ Some es → more ≡ Some (es ++ element ∷ []))
    → option_and_then (λ e. option_map (λ r. e ∷ r) rest) here ≡ Some elements → option_and_then (λ e. option_map (λ r. e ∷ r) more) here ≡ Some (elements ++ element ∷ [])
found_more None rest more elements element step whole = absurd (cc)
found_more (Some e) None more elements element step whole = absurd (cc)
found_more (Some e) (Some es) more elements element step whole =
    ap (option_map (λ r. e ∷ r)) (step es refl) ∙ ap (λ l. Some (l ++ element ∷ [])) (same_Some (e ∷ es) elements whole)

-- one element more was found
pub elements_in-append : (bag : Bag) (ids : List ℕ) (elements : List Element) (id : ℕ) (element : Element) → elements_in bag ids ≡ Some elements → map.get bag id ≡ Some element
    → elements_in bag (ids ++ id ∷ []) ≡ Some (elements ++ element ∷ [])
elements_in-append bag [] elements id element all found =
    let none : [] ≡ elements = cc in
    ap (option_and_then (λ (e : Element). Some (e ∷ []))) found ∙ ap (λ es. Some (es ++ element ∷ [])) none
elements_in-append bag (first ∷ ids) elements id element all found =
    found_more (map.get bag first) (elements_in bag ids) (elements_in bag (ids ++ id ∷ [])) elements element
    (λ es rest. elements_in-append bag ids es id element rest found) all

-- a queue from which these heads were taken, one after the other
pub record Drained (old new : Queue) (now : ℕ) (items : List Element) : Type 0 where
  pub queue : new ≡ record old { bag = without old.bag (ids_of items) }
  pub heads : AreHeads old.bag now (ids_of items)
  pub found : elements_in old.bag (ids_of items) ≡ Some items
  pub counted : length items + map.len new.bag ≡ map.len old.bag

pub drained_none : (old : Queue) (now : ℕ) → Drained old old now []
drained_none old now = record { queue = refl; heads = tt; found = refl; counted = omega arith }

-- a bag that has an element is not empty
pub some_standing : (bag : Bag) (id : ℕ) (element : Element) → map.get bag id ≡ Some element → 0 < map.len bag
some_standing bag id element found = positive (map.len bag) refl
  where
    positive : (n : ℕ) → map.len bag ≡ n → 0 < n
    positive zero none =
        let gone : map.get bag id ≡ None = ap (λ b. map.get b id) (map.empty_of_len bag none) ∙ get-empty {X = Element} nat_cmp id in absurd (cc)
    positive (suc n) some = omega arith

pub drained_more : (old new after : Queue) (now : ℕ) (items : List Element) (element : Element) → Drained old new now items → Acts new now (acts.Poll (Some element.id)) after → map.get new.bag element.id ≡ Some element
    → Drained old after now (items ++ element ∷ [])
drained_more old new after now items element so_far polls found = record {
  queue = polls.after ∙ ap (λ (q : Queue). record q { bag = map.remove q.bag element.id }) so_far.queue
      ∙ ap (λ bag. record old { bag = bag }) (sym (without-append old.bag (ids_of items) element.id) ∙ ap (without old.bag) (sym named));
  heads = subst (AreHeads old.bag now) (sym named)
      (AreHeads-append old.bag now (ids_of items) element.id so_far.heads (subst (λ (q : Queue). IsHeadId q.bag now element.id) so_far.queue polls.permitted));
  found = ap (elements_in old.bag) named
      ∙ elements_in-append old.bag (ids_of items) items element.id element so_far.found (without_kept old.bag (ids_of items) element.id element there);
  counted =
      let some = some_standing new.bag element.id element found in
      let left : map.len after.bag ≡ map.len new.bag - 1 = ap (λ (q : Queue). map.len q.bag) polls.after ∙ len-remove nat_cmp_total new.bag element.id
      ∙ ap (λ (o : Option Element). cond (is_some o) (map.len new.bag - 1) (map.len new.bag)) found in
      omega (arith, length-append items (element ∷ []), so_far.counted, some, left);
}
  where
    named : ids_of (items ++ element ∷ []) ≡ ids_of items ++ element.id ∷ []
    named = map-append (λ (e : Element). e.id) items (element ∷ [])

    there : map.get (without old.bag (ids_of items)) element.id ≡ Some element
    there = ap (λ (q : Queue). map.get q.bag element.id) (sym so_far.queue) ∙ found

-- the heads that were taken are a drain, where there are as many as were asked for, or none is left
pub drains : (old new : Queue) (now max : ℕ) (items : List Element) → Drained old new now items → length items ≤ max → (length items < max → NoneExpired new.bag now)
    → Acts old now (acts.Drain max (ids_of items)) new
drains old new now max items so_far few all = record {
  permitted = record {
    heads = so_far.heads;
    at_most = subst (λ n. n ≤ max) (sym count) few;
    all = λ less. subst (λ (q : Queue). NoneExpired q.bag now) so_far.queue (all (subst (λ n. n < max) count less));
  };
  after = so_far.queue;
}
  where
    count : length (ids_of items) ≡ length items
    count = length-map items (λ (e : Element). e.id)

-- the same queue by another name
pub drained_as : (old new other : Queue) (now : ℕ) (items : List Element) → other ≡ new → Drained old new now items → Drained old other now items
drained_as old new other now items same so_far = subst (λ q. Drained old q now items) (sym same) so_far
