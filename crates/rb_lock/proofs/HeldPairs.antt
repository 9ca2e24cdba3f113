-- The pair in a seat's hand.
use Rattle.std.proofs.Common.{◌≡◌, ℕ, List, [], ◌∷◌, ap, sym, ◌∙◌, Option, Some, None}
use Rattle.atomic_table.specs.Table.{rest}
use Rattle.rb_lock.specs.declared.pair.Pair.{Pair}

module _ {T : Type 0} where
  -- the slot that was taken last
  abbrev last_slot : Option (Pair T) → List (ℕ × Option (Pair T)) → Option (Pair T)
  last_slot other [] = other
  last_slot other (first ∷ slots) = first.1

  -- the only slot in hand may be lent
  pub only_slot : (hand : List (ℕ × Option (Pair T))) (slot : Option (Pair T)) → hand ≡ (0, slot) ∷ [] → hand ≡ (0, slot) ∷ rest hand
  only_slot hand slot is = is ∙ ap (λ (h : List (ℕ × Option (Pair T))). (0, slot) ∷ rest h) (sym is)

  -- what is lent is what was in hand
  pub same_slot : (hand others : List (ℕ × Option (Pair T))) (slot lent : Option (Pair T)) → hand ≡ (0, slot) ∷ [] → hand ≡ (0, lent) ∷ others → lent ≡ slot
  same_slot hand others slot lent is shown = ap (last_slot slot) (sym shown ∙ is)

  -- the pair of a slot, or another
  abbrev pair_of : Pair T → Option (Pair T) → Pair T
  pair_of other None = other
  pair_of other (Some pair) = pair

  pub same_pair : (one other : Pair T) → Some one ≡ Some other → one ≡ other
  same_pair one other is = ap (pair_of one) is
