-- Places of which nothing is noted any more.
use Rattle.std.proofs.Common.{◌≡◌, ℕ, zero, suc, ◌≤◌, List, [], ◌∷◌, length, replicate, Option, Some, None, refl, ap₂, arith}
use Rattle.rb_binary.specs.declared.heap.Entry.{Entry}
use Rattle.rb_binary.specs.Layout.{Agrees, place_of}

-- what is noted at no slot is a row of none
pub all_none : (places : List (Option ℕ)) → ((slot : ℕ) → place_of places slot ≡ None) → places ≡ replicate (length places) None
all_none [] none = refl
all_none (place ∷ places) none = ap₂ (λ (first : Option ℕ) (rest : List (Option ℕ)). first ∷ rest) (none zero) (all_none places (λ slot. none (suc slot)))

-- once the loop has come to every entry of the heap, nothing is noted
module _ (heap : List Entry) (old new : List (Option ℕ)) (agrees : Agrees heap old)
    (left : (slot place : ℕ) → place_of new slot ≡ Some place → (length heap ≤ place) × (place_of old slot ≡ Some place)) where
  none_left : (slot : ℕ) (place : Option ℕ) → place_of new slot ≡ place → place ≡ None
  none_left slot None is = refl
  none_left slot (Some place) is =
      let noted = left slot place is in
      let within = agrees.in_heap slot place noted.1 in
      absurd (omega arith)

  pub all_forgotten : new ≡ replicate (length new) None
  all_forgotten = all_none new (λ slot. none_left slot (place_of new slot) refl)
