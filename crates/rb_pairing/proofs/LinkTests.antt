-- Whether a link is to a slot.
use Rattle.std.proofs.Common.{◌≡◌, ℕ, ◌≢◌, ◌⊎◌, true, false, eqb, Option, Some, None, is_some, refl, ap, inl, inr, ⊎_elim}
use Rattle.std.specs.Option.{option_eq, option_or}
use Rattle.std.proofs.lemmas.Bool.{cases_eq, eqb-true, eq-eqb}

-- a link is to the slot, or it is not
pub cases_link : (link : Option ℕ) (slot : ℕ) → (link ≡ Some slot) ⊎ (link ≢ Some slot)
cases_link None slot = inr (λ same. cc)
cases_link (Some other) slot =
    ⊎_elim (λ same. inl (ap Some same)) (λ differs. inr (λ same. differs (cc))) (cases_eq other slot)

-- what the test of a link says
pub link_is : (link : Option ℕ) (slot : ℕ) → option_eq eqb link (Some slot) ≡ true
    → link ≡ Some slot
link_is None slot tested = absurd (cc)
link_is (Some other) slot tested = ap Some (eqb-true other slot tested)

pub link_is_not : (link : Option ℕ) (slot : ℕ) → option_eq eqb link (Some slot) ≡ false
    → link ≢ Some slot
link_is_not None slot tested same = cc
link_is_not (Some other) slot tested same =
    let found = eq-eqb other slot (cc) in cc

-- a link that is not none is some
pub is_some-unless : (link : Option ℕ) → link ≢ None → is_some link ≡ true
is_some-unless None not_none = absurd (not_none refl)
is_some-unless (Some other) not_none = refl

-- a link is none where one that is none is as much
pub none_as : (link other : Option ℕ) → is_some link ≡ is_some other → other ≡ None → link ≡ None
none_as None other same none = refl
none_as (Some slot) other same none = let also = ap is_some none in absurd (cc)

-- where neither of two links is to a slot the second is none
pub none_of_or : (one other : Option ℕ) → option_or one other ≡ None → other ≡ None
none_of_or None other none = none
none_of_or (Some slot) other none = absurd (cc)
