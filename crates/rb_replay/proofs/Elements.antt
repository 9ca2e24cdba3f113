-- The map of the elements that stand, after each change of the bag.
use Rattle.std.proofs.Common.{◌≡◌, ◌≢◌, ℕ, ◌+◌, ◌<◌, List, [], ◌∷◌, refl, sym, ap, subst, ◌∙◌, arith, Bool, true, false, cond, Option, Some, None, inl, inr, ◌⊎◌}
use Rattle.std.specs.Prelude.{IfSome, IsSome, IfOk, OnOk, Result, Ok, Err, is_ok, unwrap_or}
use Rattle.std.specs.Ordering.{nat_cmp, eq_by_cmp}
use Rattle.std.specs.Cmp.{nat_cmp_total, eq_by_cmp_equiv}
use Rattle.std.specs.FinMap as map
use Rattle.std.specs.FinMap.{get-empty, nat_cmp-IsAntisymmetric}
use Rattle.std.specs.BTreeMap.{BTreeMap, is_at}
use Rattle.std.specs.BTreeMap as tree
use Rattle.std.specs.Map.{lookup, remove_entry}
use Rattle.std.specs.Ordering.{match_ordering}
use Rattle.std.specs.declared.cmp.Ordering.{Ordering}
use Rattle.std.specs.declared.cmp.Ordering.TheVariants.{Less, Equal, Greater}
use Rattle.rb_queue.specs.Draft.{IsDrafted}
use Rattle.rb_queue.specs.declared.draft.Draft.{Draft}
use Rattle.rb_delayed.specs.declared.element.Element.{Element}
use Rattle.rb_queue.specs.Bag.{Bag}
use Rattle.rb_queue.specs.Queue.{Queue}
use Rattle.rb_queue.specs.Effect.{effect_of, queue_after}
use Rattle.rb_queue.specs.Calls.{Acts}
use Rattle.rb_queue.specs.declared.act.Act.TheVariants as acts
use Rattle.rb_queue.proofs.Options.{same_or_not}
use Rattle.rb_queue.proofs.Bags.{get_inserted, get_removed, get_inserted_same, get_inserted_other, get_removed_same, get_removed_other, remove_absent}
use Rattle.rb_history.proofs.SameElements.{same_element}
use Rattle.rb_replay.specs.ReplayedQueue.{AreFiled, HasElements}

-- the order of the two ids that are compared has no meaning
pub flipped : (k q : ℕ) → eq_by_cmp nat_cmp k q ≡ eq_by_cmp nat_cmp q k
flipped k q = (eq_by_cmp_equiv nat_cmp_total).symm k q

-- entries that are filed stay so where the end comes later, where one is put in, and where one is taken out
filed_later : (end : ℕ) (entries : List (ℕ × Element)) → AreFiled end entries → AreFiled (end + 1) entries
filed_later end [] filed = tt
filed_later end ((id, element) ∷ entries) filed = (filed.0, omega (arith, filed.1), filed_later end entries filed.2)

filed_inserted : (end : ℕ) (entries : List (ℕ × Element)) (element : Element) → AreFiled end entries → element.id < end
    → AreFiled end (tree.insert_entry nat_cmp entries element.id element)
filed_inserted end [] element filed below = (refl, below, tt)
filed_inserted end ((id, other) ∷ entries) element filed below =
    by_order (filed_inserted end entries element filed.2 below) (nat_cmp element.id id) refl
  where
    by_order : AreFiled end (tree.insert_entry nat_cmp entries element.id element) → (order : Ordering) → nat_cmp element.id id ≡ order
        → AreFiled end (match_ordering order ((element.id, element) ∷ (id, other) ∷ entries) ((id, element) ∷ entries) ((id, other) ∷ tree.insert_entry nat_cmp entries element.id element))
    by_order later Less is = (refl, below, filed)
    by_order later Equal is = (nat_cmp-IsAntisymmetric element.id id is, filed.1, filed.2)
    by_order later Greater is = (filed.0, filed.1, later)

filed_removed : (end : ℕ) (entries : List (ℕ × Element)) (test : ℕ → Bool) → AreFiled end entries → AreFiled end (remove_entry test entries)
filed_removed end [] test filed = tt
filed_removed end ((id, element) ∷ entries) test filed =
    elim (test id) as (λ b. AreFiled end (cond b entries ((id, element) ∷ remove_entry test entries))) [
      | true ↦ filed.2
      | false ↦ (filed.0, filed.1, filed_removed end entries test filed.2)
    ]

-- no entry
pub has_none : (end : ℕ) (elements : BTreeMap ℕ Element) → elements.entries ≡ [] → HasElements map.empty end elements
has_none end elements none = record {
  filed = subst (AreFiled end) (sym none) tt;
  same = λ id. ap (lookup (is_at (nat_cmp id))) none ∙ sym (get-empty nat_cmp id);
  named = λ id. subst (λ o. IfSome o (λ (element : Element). element.id ≡ id)) (sym (get-empty nat_cmp id)) tt;
}

-- one element more, under its id
pub has_inserted : (bag : Bag) (end : ℕ) (old new : BTreeMap ℕ Element) (element : Element) → HasElements bag end old → element.id < end
    → new.entries ≡ tree.insert_entry nat_cmp old.entries element.id element
    → ((q : ℕ) → tree.get nat_cmp new q ≡ cond (is_at (nat_cmp element.id) q) (Some element) (tree.get nat_cmp old q))
    → HasElements (map.insert bag element.id element) end new
has_inserted bag end old new element has below entries updates = record {
  filed = subst (AreFiled end) (sym entries) (filed_inserted end old.entries element has.filed below);
  same = λ id.
      updates id ∙ ap (λ b. cond b (Some element) (tree.get nat_cmp old id)) (flipped element.id id)
      ∙ ap (cond (eq_by_cmp nat_cmp id element.id) (Some element)) (has.same id)
      ∙ sym (get_inserted bag element.id id element);
  named = λ id. named_at id (same_or_not id element.id);
}
  where
    named_at : (id : ℕ) → (id ≡ element.id) ⊎ (id ≢ element.id) → IfSome (map.get (map.insert bag element.id element) id) (λ other. other.id ≡ id)
    named_at id (inl same) =
        subst (λ o. IfSome o (λ (other : Element). other.id ≡ id)) (sym (ap (map.get (map.insert bag element.id element)) same ∙ get_inserted_same bag element.id element)) (sym same)
    named_at id (inr differ) =
        subst (λ o. IfSome o (λ (other : Element). other.id ≡ id)) (sym (get_inserted_other bag element.id id element differ)) (has.named id)

-- one element less
pub has_removed : (bag : Bag) (end : ℕ) (old new : BTreeMap ℕ Element) (k : ℕ) → HasElements bag end old
    → new.entries ≡ remove_entry (is_at (nat_cmp k)) old.entries
    → ((q : ℕ) → tree.get nat_cmp new q ≡ cond (is_at (nat_cmp k) q) None (tree.get nat_cmp old q))
    → HasElements (map.remove bag k) end new
has_removed bag end old new k has entries updates = record {
  filed = subst (AreFiled end) (sym entries) (filed_removed end old.entries (is_at (nat_cmp k)) has.filed);
  same = λ id.
      updates id ∙ ap (λ b. cond b None (tree.get nat_cmp old id)) (flipped k id)
      ∙ ap (cond (eq_by_cmp nat_cmp id k) None) (has.same id) ∙ sym (get_removed bag k id);
  named = λ id. named_at id (same_or_not id k);
}
  where
    named_at : (id : ℕ) → (id ≡ k) ⊎ (id ≢ k) → IfSome (map.get (map.remove bag k) id) (λ other. other.id ≡ id)
    named_at id (inl same) =
        subst (λ o. IfSome o (λ (other : Element). other.id ≡ id)) (sym (ap (map.get (map.remove bag k)) same ∙ get_removed_same bag k)) tt
    named_at id (inr differ) =
        subst (λ o. IfSome o (λ (other : Element). other.id ≡ id)) (sym (get_removed_other bag k id differ)) (has.named id)

-- the end may come later
pub has_later : (bag : Bag) (end : ℕ) (elements : BTreeMap ℕ Element) → HasElements bag end elements → HasElements bag (end + 1) elements
has_later bag end elements has = record { same = has.same; named = has.named; filed = filed_later end elements.entries has.filed }

-- a removal by name takes the element out, whether there was one or not
pub removed_anyway : (old new : Queue) (id : ℕ) (found : Bool) → Acts old 0 (acts.Remove id found) new → new ≡ record old { bag = map.remove old.bag id }
removed_anyway old new id true acts = acts.after
removed_anyway old new id false acts =
    acts.after ∙ (λ i. record old { bag = sym (remove_absent old.bag id (nothing (map.get old.bag id) refl)) i })
  where
    nothing : (o : Option Element) → map.get old.bag id ≡ o → map.get old.bag id ≡ None
    nothing None is = is
    nothing (Some element) is = let found_it : false ≡ true = acts.permitted.1 (subst IsSome (sym is) refl) in absurd (cc)

-- the queue's element is the one that was drafted from it
pub drafted_from : (element made : Element) (draft : Draft) → IsDrafted draft made → made.id ≡ element.id → draft.expiry ≡ element.expiry
    → draft.origin ≡ Some element.origin → draft.first ≡ Some element.first → draft.attempt ≡ element.attempt → draft.payload ≡ element.payload → made ≡ element
drafted_from element made draft drafted named expiry origin first attempt payload =
    same_element made element named (drafted.expiry ∙ expiry) (drafted.origin ∙ ap (λ o. unwrap_or o made.id) origin)
    (drafted.first ∙ ap (λ o. unwrap_or o made.expiry) first) (drafted.attempt ∙ attempt) (drafted.payload ∙ payload)

-- what holds of a result that is Ok
pub ok_both : {T E : Type 0} (r : Result T E) (P Q : T → Type 0) → is_ok r ≡ true → IfOk r P → IfOk r Q → (x : T) × P x × Q x
ok_both (Ok x) P Q is h k = (x, h, k)
ok_both (Err e) P Q is h k = absurd (cc)

pub at_ok : {T E : Type 0} (r : Result T E) (P : Type 0) → is_ok r ≡ true → OnOk r P → P
at_ok (Ok x) P is h = h
at_ok (Err e) P is h = absurd (cc)

-- the queue took in the element that was drafted from this one
pub offered_this : {E : Type 0} (old new : Queue) (element : Element) (draft : Draft) (r : Result Element E) → is_ok r ≡ true
    → IfOk r (λ made. (now : ℕ) → Acts old now (acts.Offer made) new) → IfOk r (IsDrafted draft) → element.id ≡ old.next_id → draft.expiry ≡ element.expiry
    → draft.origin ≡ Some element.origin → draft.first ≡ Some element.first → draft.attempt ≡ element.attempt → draft.payload ≡ element.payload
    → new ≡ queue_after old (effect_of (acts.Offer element))
offered_this old new element draft r ok offers drafts named expiry origin first attempt payload =
    let (made, offer, drafted) = ok_both r _ _ ok offers drafts in
    let same = drafted_from element made draft drafted ((offer 0).permitted ∙ sym named) expiry origin first attempt payload in
    (offer 0).after ∙ ap (λ e. queue_after old (effect_of (acts.Offer e))) same
