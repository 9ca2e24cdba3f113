-- Facts of the value of an option, and numbers that are equal or not.
use Rattle.std.proofs.Common.{◌≡◌, ◌≢◌, ℕ, refl, sym, subst, arith, Option, Some, None, true, false, inl, inr, ◌⊎◌, nat_eq}
use Rattle.std.proofs.lemmas.Bool.Decides.{nat_tests}
use Rattle.std.specs.Prelude.{IfSome, IsSomeAnd, MatchOption, option_map}

-- two numbers are equal, or they are not
pub same_or_not : (a b : ℕ) → (a ≡ b) ⊎ (a ≢ b)
same_or_not a b = elim (nat_eq a b) as (λ test. nat_eq a b ≡ test → (a ≡ b) ⊎ (a ≢ b)) [
  | true ↦ λ yes. inl (grind (arith, nat_tests))
  | false ↦ λ no. inr (λ same. grind (arith, nat_tests))
] refl

-- an option that a map leaves with a value had one
pub mapped_some : {A B : Type 0} (f : A → B) (o : Option A) (b : B) → option_map f o ≡ Some b → (a : A) × (o ≡ Some a) × (f a ≡ b)
mapped_some f None b same = absurd (cc)
mapped_some f (Some a) b same = (a, refl, cc)

-- a fact of each value of an option
pub of_each : {A : Type 0} (o : Option A) (P : A → Type 0) → ((a : A) → o ≡ Some a → P a) → IfSome o P
of_each None P each = tt
of_each (Some a) P each = each a refl

-- the fact at a value of the option
pub at_value : {A : Type 0} (o : Option A) (P : A → Type 0) (a : A) → o ≡ Some a → IfSome o P → P a
at_value o P a is h = subst (λ r. IfSome r P) is h

-- an option has a value, of which the fact holds
pub has_and : {A : Type 0} (o : Option A) (P : A → Type 0) (a : A) → o ≡ Some a → P a → IsSomeAnd o P
has_and o P a is h = subst (λ r. IsSomeAnd r P) (sym is) h

-- the value that it has
pub value_and : {A : Type 0} (o : Option A) (P : A → Type 0) → IsSomeAnd o P → (a : A) × (o ≡ Some a) × P a
value_and None P h = absurd h
value_and (Some a) P h = (a, refl, h)

-- a value with a fact matches, whatever holds where there is none
pub matches_some : {A : Type 0} (o : Option A) (Q : Type 0) (P : A → Type 0) → IsSomeAnd o P → MatchOption o Q P
matches_some None Q P h = absurd h
matches_some (Some a) Q P h = h
