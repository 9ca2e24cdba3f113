-- Sums over views, and how often a name stands in a list.
use Rattle.std.proofs.Common.{◌≡◌, ◌≢◌, ℕ, zero, suc, ◌+◌, ◌≤◌, ◌==◌, List, [], ◌∷◌, ◌++◌, set, refl, ap, sym, arith, eq-eqb, ne_eqb, Bool, true, false}
use mathlib.Core.Option.{some, some-injective, some-ne-none}
use lib.ListN.{get_elem?}
use Rattle.rb_lock.specs.Records.{bit, times_in}
use Rattle.rb_lock.specs.Views.{total}

module _ {V : Type 0} (f : V → ℕ) where
  -- one summand changes
  pub total_set : (views : List V) (i : ℕ) (v w : V) → get_elem? views i ≡ some v → total f (set views i w) + f v ≡ total f views + f w
  total_set [] i v w at = absurd (some-ne-none v (sym at))
  total_set (x ∷ views) zero v w at = let here : f x ≡ f v = ap f (some-injective x v at) in omega arith
  total_set (x ∷ views) (suc i) v w at = omega (arith, total_set views i v w at)

  -- one summand is at most the sum
  pub total_at : (views : List V) (i : ℕ) (v : V) → get_elem? views i ≡ some v → f v ≤ total f views
  total_at [] i v at = absurd (some-ne-none v (sym at))
  total_at (x ∷ views) zero v at = let here : f x ≡ f v = ap f (some-injective x v at) in omega arith
  total_at (x ∷ views) (suc i) v at = omega (arith, total_at views i v at)

  -- and so are two at different places
  pub total_two : (views : List V) (i j : ℕ) (v w : V) → i ≢ j → get_elem? views i ≡ some v → get_elem? views j ≡ some w → f v + f w ≤ total f views
  total_two [] i j v w apart at there = absurd (some-ne-none v (sym at))
  total_two (x ∷ views) zero zero v w apart at there = absurd (apart refl)
  total_two (x ∷ views) zero (suc j) v w apart at there =
      let here : f x ≡ f v = ap f (some-injective x v at) in omega (arith, total_at views j w there)
  total_two (x ∷ views) (suc i) zero v w apart at there =
      let here : f x ≡ f w = ap f (some-injective x w there) in omega (arith, total_at views i v at)
  total_two (x ∷ views) (suc i) (suc j) v w apart at there = omega (arith, total_two views i j v w (λ e. apart (ap suc e)) at there)

  -- nothing is summed up
  total_none : (views : List V) → ((j : ℕ) (w : V) → get_elem? views j ≡ some w → f w ≡ 0) → total f views ≡ 0
  total_none [] none = refl
  total_none (x ∷ views) none = omega (arith, none zero x refl, total_none views (λ j w there. none (suc j) w there))

  -- one summand alone
  pub total_alone : (views : List V) (i : ℕ) (v : V) → get_elem? views i ≡ some v → ((j : ℕ) (w : V) → j ≢ i → get_elem? views j ≡ some w → f w ≡ 0) → total f views ≡ f v
  total_alone [] i v at none = absurd (some-ne-none v (sym at))
  total_alone (x ∷ views) zero v at none =
      let here : f x ≡ f v = ap f (some-injective x v at) in
      omega (arith, here, total_none views (λ j w there. none (suc j) w (λ e. absurd (omega arith)) there))
  total_alone (x ∷ views) (suc i) v at none =
      omega (arith, none zero x (λ e. absurd (omega arith)) refl, total_alone views i v at (λ j w apart there. none (suc j) w (λ e. apart (omega arith)) there))

  -- one summand more
  pub total_snoc : (views : List V) (v : V) → total f (views ++ v ∷ []) ≡ total f views + f v
  total_snoc [] v = omega arith
  total_snoc (x ∷ views) v = omega (arith, total_snoc views v)

-- a number is itself
pub bit_same : (n : ℕ) → bit (n == n) ≡ 1
bit_same n = ap bit (eq-eqb n n refl)

pub bit_other : (m n : ℕ) → bit (m == n) ≡ 0 → m ≢ n
bit_other m n none same = let one : bit (m == n) ≡ 1 = ap bit (eq-eqb m n same) in omega arith

pub bit_apart : (m n : ℕ) → m ≢ n → bit (m == n) ≡ 0
bit_apart m n other = ap bit (ne_eqb m n other)

pub bit_small : (b : Bool) → bit b ≤ 1
bit_small true = omega arith
bit_small false = omega arith

pub times_in-append : (n : ℕ) (xs ys : List ℕ) → times_in n (xs ++ ys) ≡ times_in n xs + times_in n ys
times_in-append n [] ys = omega arith
times_in-append n (x ∷ xs) ys = omega (arith, times_in-append n xs ys)
