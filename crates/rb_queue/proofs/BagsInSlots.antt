-- The bag of the elements that lie in slots, where no two have one id.
use Rattle.std.proofs.Common.{◌≡◌, ◌≢◌, ℕ, zero, suc, List, [], ◌∷◌, refl, sym, ap, subst, ◌∙◌, arith, Option, Some, None, inl, inr, ◌⊎◌}
use Rattle.std.specs.Prelude.{slice_index_or}
use Rattle.std.specs.FinMap as map
use Rattle.std.specs.FinMap.{get-empty}
use Rattle.std.specs.Ordering.{nat_cmp}
use Rattle.rb_delayed.specs.declared.element.Element.{Element}
use Rattle.rb_queue.specs.Bag.{Bag}
use Rattle.rb_queue.specs.Filing.{bag_of}
use Rattle.rb_queue.proofs.Options.{same_or_not}
use Rattle.rb_queue.proofs.Bags.{get_inserted_same, get_inserted_other, get_removed_same, get_removed_other, same_bag}

-- two options that have the same values are one
same_values : (one other : Option Element) → ((e : Element) → one ≡ Some e → other ≡ Some e) → ((e : Element) → other ≡ Some e → one ≡ Some e) → one ≡ other
same_values None None there here = refl
same_values None (Some e) there here = here e refl
same_values (Some e) other there here = sym (there e refl)

-- what lies in a slot
abbrev pub at : List (Option Element) → ℕ → Option Element
at slots slot = slice_index_or slots slot None

-- some slot has an element of the id
pub record Lies (slots : List (Option Element)) (id : ℕ) (element : Element) : Type 0 where
  pub slot : ℕ
  pub found : at slots slot ≡ Some element
  pub named : element.id ≡ id

-- no two elements have one id
abbrev pub AreDistinct : List (Option Element) → Type 0
AreDistinct slots = (slot other : ℕ) (a b : Element) → at slots slot ≡ Some a → at slots other ≡ Some b → a.id ≡ b.id → slot ≡ other

-- the bag has exactly the elements that lie in the slots
pub record Holds (slots : List (Option Element)) (bag : Bag) : Type 0 where
  pub each : (slot : ℕ) (element : Element) → at slots slot ≡ Some element → map.get bag element.id ≡ Some element
  pub only : (id : ℕ) (element : Element) → map.get bag id ≡ Some element → Lies slots id element

rest_distinct : (first : Option Element) (slots : List (Option Element)) → AreDistinct (first ∷ slots) → AreDistinct slots
rest_distinct first slots distinct slot other a b here there same =
    let next : suc slot ≡ suc other = distinct (suc slot) (suc other) a b here there same in omega arith

later : (first : Option Element) (slots : List (Option Element)) (id : ℕ) (element : Element) → Lies slots id element → Lies (first ∷ slots) id element
later first slots id element lies = record { slot = suc lies.slot; found = lies.found; named = lies.named }

-- an element behind the first slot has another id than the first
other_id : (first : Element) (slots : List (Option Element)) → AreDistinct (Some first ∷ slots) → (slot : ℕ) (element : Element) → at slots slot ≡ Some element → element.id ≢ first.id
other_id first slots distinct slot element here same =
    let clash : suc slot ≡ 0 = distinct (suc slot) 0 element first here refl same in absurd (omega arith)

-- what the bag of these slots has
pub Holds-bag_of : (slots : List (Option Element)) → AreDistinct slots → Holds slots (bag_of slots)
Holds-bag_of [] distinct = record {
  each = λ slot element found. absurd (cc);
  only = λ id element found. let none : map.get {X = Element} (map.empty {R = nat_cmp}) id ≡ None = get-empty nat_cmp id in absurd (cc);
}
Holds-bag_of (None ∷ slots) distinct =
    let rest = Holds-bag_of slots (rest_distinct None slots distinct) in
    record {
      each = λ slot element found. each_later slot element found rest;
      only = λ id element found. later None slots id element (rest.only id element found);
    }
  where
    each_later : (slot : ℕ) (element : Element) → at (None ∷ slots) slot ≡ Some element → Holds slots (bag_of slots) → map.get (bag_of slots) element.id ≡ Some element
    each_later zero element found rest = absurd (cc)
    each_later (suc slot) element found rest = rest.each slot element found
Holds-bag_of (Some first ∷ slots) distinct =
    let rest = Holds-bag_of slots (rest_distinct (Some first) slots distinct) in
    record {
      each = λ slot element found. each_here slot element found rest;
      only = λ id element found. only_here id element found rest (same_or_not id first.id);
    }
  where
    each_here : (slot : ℕ) (element : Element) → at (Some first ∷ slots) slot ≡ Some element → Holds slots (bag_of slots) → map.get (map.insert (bag_of slots) first.id first) element.id ≡ Some element
    each_here zero element found rest =
        let same : first ≡ element = cc in
        subst (λ e. map.get (map.insert (bag_of slots) first.id first) e.id ≡ Some e) same (get_inserted_same (bag_of slots) first.id first)
    each_here (suc slot) element found rest =
        get_inserted_other (bag_of slots) first.id element.id first (other_id first slots distinct slot element found) ∙ rest.each slot element found

    only_here : (id : ℕ) (element : Element) → map.get (map.insert (bag_of slots) first.id first) id ≡ Some element → Holds slots (bag_of slots) → (id ≡ first.id) ⊎ (id ≢ first.id) → Lies (Some first ∷ slots) id element
    only_here id element found rest (inl same) =
        let here : map.get (map.insert (bag_of slots) first.id first) id ≡ Some first = ap (map.get (map.insert (bag_of slots) first.id first)) same ∙ get_inserted_same (bag_of slots) first.id first in
        let is : first ≡ element = cc in
        record { slot = 0; found = ap Some is; named = ap (λ (e : Element). e.id) (sym is) ∙ sym same }
    only_here id element found rest (inr differ) =
        let there = sym (get_inserted_other (bag_of slots) first.id id first differ) ∙ found in
        later (Some first) slots id element (rest.only id element there)

-- slots hold one bag
pub Holds-unique : (slots : List (Option Element)) (one other : Bag) → Holds slots one → Holds slots other → one ≡ other
Holds-unique slots one other h k = same_bag one other (λ id. same_values _ _ (along one other h k id) (along other one k h id))
  where
    along : (a b : Bag) → Holds slots a → Holds slots b → (id : ℕ) (e : Element) → map.get a id ≡ Some e → map.get b id ≡ Some e
    along a b ha hb id e found =
        let lies = ha.only id e found in
        subst (λ name. map.get b name ≡ Some e) lies.named (hb.each lies.slot e lies.found)

module _ (old new : List (Option Element)) (slot : ℕ) (e : Element) (bag : Bag) (holds : Holds old bag)
    (others : (other : ℕ) → other ≢ slot → at new other ≡ at old other) where
  -- one element more, under an id that the bag does not have
  pub Holds-insert : at old slot ≡ None → at new slot ≡ Some e → map.get bag e.id ≡ None → Holds new (map.insert bag e.id e)
  Holds-insert vacant filled fresh = record {
    each = λ s el found. each_insert s el found (same_or_not s slot);
    only = λ id el found. only_insert id el found (same_or_not id e.id);
  }
    where
      each_insert : (s : ℕ) (el : Element) → at new s ≡ Some el → (s ≡ slot) ⊎ (s ≢ slot) → map.get (map.insert bag e.id e) el.id ≡ Some el
      each_insert s el found (inl same) =
          let here : at new s ≡ Some e = ap (at new) same ∙ filled in
          let is : e ≡ el = cc in
          subst (λ x. map.get (map.insert bag e.id e) x.id ≡ Some x) is (get_inserted_same bag e.id e)
      each_insert s el found (inr differ) =
          let was : map.get bag el.id ≡ Some el = holds.each s el (sym (others s differ) ∙ found) in
          let differs : el.id ≢ e.id = λ same. let clash : map.get bag el.id ≡ None = ap (map.get bag) same ∙ fresh in cc in
          get_inserted_other bag e.id el.id e differs ∙ was

      only_insert : (id : ℕ) (el : Element) → map.get (map.insert bag e.id e) id ≡ Some el → (id ≡ e.id) ⊎ (id ≢ e.id) → Lies new id el
      only_insert id el found (inl same) =
          let here : map.get (map.insert bag e.id e) id ≡ Some e = ap (map.get (map.insert bag e.id e)) same ∙ get_inserted_same bag e.id e in
          let is : e ≡ el = cc in
          record { slot = slot; found = filled ∙ ap Some is; named = ap (λ (x : Element). x.id) (sym is) ∙ sym same }
      only_insert id el found (inr differ) =
          let lies = holds.only id el (sym (get_inserted_other bag e.id id e differ) ∙ found) in
          let elsewhere : lies.slot ≢ slot = λ same. let clash : at old lies.slot ≡ None = ap (at old) same ∙ vacant in let there : at old lies.slot ≡ Some el = lies.found in cc in
          record { slot = lies.slot; found = others lies.slot elsewhere ∙ lies.found; named = lies.named }

  -- one element fewer
  pub Holds-remove : AreDistinct old → at old slot ≡ Some e → at new slot ≡ None → Holds new (map.remove bag e.id)
  Holds-remove distinct filled vacant = record {
    each = λ s el found. each_remove s el found (same_or_not s slot);
    only = λ id el found. only_remove id el found (same_or_not id e.id);
  }
    where
      each_remove : (s : ℕ) (el : Element) → at new s ≡ Some el → (s ≡ slot) ⊎ (s ≢ slot) → map.get (map.remove bag e.id) el.id ≡ Some el
      each_remove s el found (inl same) = let clash : at new s ≡ None = ap (at new) same ∙ vacant in absurd (cc)
      each_remove s el found (inr differ) =
          let was : at old s ≡ Some el = sym (others s differ) ∙ found in
          get_removed_other bag e.id el.id (λ same. differ (distinct s slot el e was filled same)) ∙ holds.each s el was

      only_remove : (id : ℕ) (el : Element) → map.get (map.remove bag e.id) id ≡ Some el → (id ≡ e.id) ⊎ (id ≢ e.id) → Lies new id el
      only_remove id el found (inl same) =
          let gone : map.get (map.remove bag e.id) id ≡ None = ap (map.get (map.remove bag e.id)) same ∙ get_removed_same bag e.id in absurd (cc)
      only_remove id el found (inr differ) =
          let lies = holds.only id el (sym (get_removed_other bag e.id id differ) ∙ found) in
          let elsewhere : lies.slot ≢ slot = λ same.
          let here : at old lies.slot ≡ Some e = ap (at old) same ∙ filled in
          let there : at old lies.slot ≡ Some el = lies.found in
          let is : e ≡ el = cc in
          differ (sym lies.named ∙ ap (λ (x : Element). x.id) (sym is)) in
          record { slot = lies.slot; found = others lies.slot elsewhere ∙ lies.found; named = lies.named }
