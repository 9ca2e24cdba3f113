-- Each slot of a cell is met on the way from the cell's first slot, and that way ends.
use Rattle.std.proofs.Common.{◌≡◌, ℕ, zero, suc, ◌<◌, ◌≤◌, true, false, eqb, ◌||◌, List, [], ◌∷◌, length, Option, Some, None, sym, ap, ◌∙◌, refl, subst, arith, ⊎_elim}
use Rattle.std.specs.List.{IsDistinct, AllByRecursion, list_any}
use Rattle.std.proofs.lemmas.Bool.{cases_eq, ne_eqb}
use Rattle.std.proofs.lemmas.Map.Steps.{length-le_from_distinct_below}
use Rattle.std.proofs.lemmas.Option.{none-some, same_Some}
use Rattle.rb_wheel.specs.WheelLinks.{LinksAgree}
use Rattle.rb_wheel.proofs.Linked.{cases_option}

-- a slot is met from another, or from none, by going on to the next
pub data Reaches (next : ℕ → Option ℕ) : Option ℕ → ℕ → Type 0 where
  here : {slot : ℕ} → Reaches next (Some slot) slot
  later : {slot other : ℕ} → Reaches next (next slot) other → Reaches next (Some slot) other

-- and so is the one after it
further : {next : ℕ → Option ℕ} {from : Option ℕ} {slot : ℕ} (other : ℕ) → Reaches next from slot → next slot ≡ Some other → Reaches next from other
further {next} other here is = later (subst (λ o. Reaches next o other) (sym is) here)
further other (later way) is = later (further other way is)

-- the slots from `from` on, each the next of the one before it: at most `fuel` of them
abbrev pub walk : (ℕ → Option ℕ) → ℕ → Option ℕ → List ℕ
walk next zero from = []
walk next (suc fuel) None = []
walk next (suc fuel) (Some slot) = slot ∷ walk next fuel (next slot)

-- how many slots are still to come
abbrev pub left : (ℕ → Option ℕ) → ℕ → Option ℕ → ℕ
left next room from = length (walk next (suc room) from)

module _ (head cell next previous : ℕ → Option ℕ) (rank : ℕ → ℕ) (linked : LinksAgree head cell next previous rank) where
  -- a cell's first slot, from which this one is met
  pub record IsMet (at slot : ℕ) : Type 0 where
    pub first : ℕ
    pub heads : head at ≡ Some first
    pub way : Reaches next (Some first) slot

  met_within : (fuel at slot : ℕ) → rank slot < fuel → cell slot ≡ Some at → IsMet at slot
  met_within zero at slot low is = absurd (omega arith)
  met_within (suc fuel) at slot low is = cases_option (IsMet at slot) (previous slot)
      (λ none. record { first = slot; heads = linked.first_head at slot is none; way = here })
      (λ before inner.
      let after = linked.previous_next before slot inner in
      let rises = linked.next_rank before slot after in
      let met = met_within fuel at before (omega arith) (sym (linked.next_cell before slot after) ∙ is) in
      record { first = met.first; heads = met.heads; way = further slot met.way after })

  pub met : (at slot : ℕ) → cell slot ≡ Some at → IsMet at slot
  met at slot is = met_within (suc (rank slot)) at slot (omega arith) is

  module _ (room : ℕ) (low : (slot at : ℕ) → cell slot ≡ Some at → slot < room) where
    above_all : (fuel below : ℕ) (from : Option ℕ) → ((slot : ℕ) → from ≡ Some slot → below < rank slot)
        → AllByRecursion (λ slot. below < rank slot) (walk next fuel from)
    above_all zero below from above = tt
    above_all (suc fuel) below None above = tt
    above_all (suc fuel) below (Some slot) above = (
      above slot refl,
      above_all fuel below (next slot) (λ other is. let rises = linked.next_rank slot other is in let more = above slot refl in omega arith),
    )

    apart_all : (slot : ℕ) (others : List ℕ) → AllByRecursion (λ other. rank slot < rank other) others
        → AllByRecursion (λ other. eqb slot other ≡ false) others
    apart_all slot [] above = tt
    apart_all slot (other ∷ others) above =
        (ne_eqb slot other (λ same. let equal = ap rank same in let more = above.0 in omega arith), apart_all slot others above.1)

    distinct : (fuel : ℕ) (from : Option ℕ) → IsDistinct eqb (walk next fuel from)
    unfolding IsDistinct
    distinct zero from = tt
    distinct (suc fuel) None = tt
    distinct (suc fuel) (Some slot) = (
      apart_all slot (walk next fuel (next slot)) (above_all fuel (rank slot) (next slot) (linked.next_rank slot)),
      distinct fuel (next slot),
    )

    next_low : (slot other : ℕ) → next slot ≡ Some other → other < room
    next_low slot other is = cases_option (other < room) (cell other)
        (λ free. absurd (none-some slot (sym (linked.free_previous other free) ∙ linked.next_previous slot other is)))
        (λ at lies. low other at lies)

    all_low : (fuel : ℕ) (from : Option ℕ) → ((slot : ℕ) → from ≡ Some slot → slot < room)
        → (q : ℕ) → list_any (eqb q) (walk next fuel from) ≡ true → q < room
    all_low zero from in_room q is = absurd (cc)
    all_low (suc fuel) None in_room q is = absurd (cc)
    all_low (suc fuel) (Some slot) in_room q is = ⊎_elim
        (λ same. subst (λ s. s < room) (sym same) (in_room slot refl))
        (λ apart. all_low fuel (next slot) (next_low slot) q (sym (ap (λ b. b || list_any (eqb q) (walk next fuel (next slot))) (ne_eqb q slot apart)) ∙ is))
        (cases_eq q slot)

    -- no walk is longer than there are slots
    short : (fuel : ℕ) (from : Option ℕ) → ((slot : ℕ) → from ≡ Some slot → slot < room) → length (walk next fuel from) ≤ room
    short fuel from in_room = length-le_from_distinct_below (walk next fuel from) room (distinct fuel from) (all_low fuel from in_room)

    -- a walk that has ended does so with more fuel
    ends : (fuel : ℕ) (from : Option ℕ) → length (walk next fuel from) < fuel → walk next (suc fuel) from ≡ walk next fuel from
    ends zero from less = absurd (omega arith)
    ends (suc fuel) None less = refl
    ends (suc fuel) (Some slot) less = ap (λ rest. slot ∷ rest) (ends fuel (next slot) (omega arith))

    -- one slot less is left after each
    pub left-next : (slot : ℕ) → slot < room → left next room (next slot) < left next room (Some slot)
    left-next slot within =
        let whole = short (suc room) (Some slot) (λ other is. subst (λ s. s < room) (same_Some slot other is) within) in
        let ended = ap length (ends room (next slot) (omega arith)) in
        omega arith
