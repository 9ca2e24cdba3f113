-- New ranks for the room after `below` is put under `above`: the two get the lower of their ranks and
-- the one behind it, and what was between them goes one up.
use Rattle.std.proofs.Common.{◌≡◌, ℕ, ◌+◌, ◌<◌, ◌≤◌, ◌≢◌, min, max, cond, ltb, eqb, refl, sym, ap, ◌∙◌, arith, ⊎_elim}
use Rattle.std.proofs.lemmas.Bool.{cases_eq, cases_lt, lt-ltb, le-ltb, eq-eqb, ne_eqb}

-- one up where it is between the two
abbrev pub lifted : ℕ → ℕ → ℕ → ℕ
lifted low high n = cond (ltb low n) (cond (ltb n high) (n + 1) n) n

pub record IsLifted (low high old new : ℕ) : Type 0 where
  pub between : low < old → old < high → new ≡ old + 1
  pub under : old ≤ low → new ≡ old
  pub over : high ≤ old → new ≡ old

is_lifted : (low high n : ℕ) → IsLifted low high n (lifted low high n)
is_lifted low high n = record {
  between = λ more less. ap (λ b. cond b (cond (ltb n high) (n + 1) n) n) (lt-ltb low n more)
      ∙ ap (λ b. cond b (n + 1) n) (lt-ltb n high less);
  under = λ less. ap (λ b. cond b (cond (ltb n high) (n + 1) n) n) (le-ltb low n less);
  over = λ more. ⊎_elim
      (λ low_less. ap (λ b. cond b (cond (ltb n high) (n + 1) n) n) (lt-ltb low n low_less)
      ∙ ap (λ b. cond b (n + 1) n) (le-ltb n high more))
      (λ low_more. ap (λ b. cond b (cond (ltb n high) (n + 1) n) n) (le-ltb low n low_more))
      (cases_lt low n);
}

module _ (room : ℕ) (rank : ℕ → ℕ) (in_room : (slot : ℕ) → slot < room → rank slot < room)
    (distinct : (slot other : ℕ) → slot < room → other < room → rank slot ≡ rank other → slot ≡ other)
    (above below : ℕ) (apart : above ≢ below) (above_within : above < room) (below_within : below < room) where
  abbrev pub low : ℕ
  low = min (rank above) (rank below)

  abbrev pub high : ℕ
  high = max (rank above) (rank below)

  abbrev pub reranked : ℕ → ℕ
  reranked slot =
      cond (eqb slot above) low (cond (eqb slot below) (low + 1) (lifted low high (rank slot)))

  pub rank_above : reranked above ≡ low
  rank_above =
      ap (λ b. cond b low (cond (eqb above below) (low + 1) (lifted low high (rank above)))) (eq-eqb above above refl)

  pub rank_below : reranked below ≡ low + 1
  rank_below =
      ap (λ b. cond b low (cond (eqb below below) (low + 1) (lifted low high (rank below))))
      (ne_eqb below above (λ same. apart (sym same)))
      ∙ ap (λ b. cond b (low + 1) (lifted low high (rank below))) (eq-eqb below below refl)

  pub rank_other : (slot : ℕ) → slot ≢ above → slot ≢ below
      → IsLifted low high (rank slot) (reranked slot)
  rank_other slot off_above off_below =
      let same : reranked slot ≡ lifted low high (rank slot) =
      ap (λ b. cond b low (cond (eqb slot below) (low + 1) (lifted low high (rank slot)))) (ne_eqb slot above off_above)
      ∙ ap (λ b. cond b (low + 1) (lifted low high (rank slot))) (ne_eqb slot below off_below) in
      let lifts = is_lifted low high (rank slot) in
      record {
        between = λ more less. same ∙ lifts.between more less;
        under = λ less. same ∙ lifts.under less;
        over = λ more. same ∙ lifts.over more;
      }

  -- each slot is one of the two, or another
  pub slot_cases : (P : Type 0) (slot : ℕ) → (slot ≡ above → reranked slot ≡ low → P)
      → (slot ≡ below → reranked slot ≡ low + 1 → P)
      → (slot ≢ above → slot ≢ below → P) → P
  slot_cases P slot is_above is_below other =
      ⊎_elim (λ same. is_above same (ap reranked same ∙ rank_above))
      (λ off_above. ⊎_elim (λ same. is_below same (ap reranked same ∙ rank_below))
      (other off_above) (cases_eq slot below))
      (cases_eq slot above)

  ranks_apart : rank above ≢ rank below
  ranks_apart same = apart (distinct above below above_within below_within same)

  pub apart_from : (slot other : ℕ) → slot < room → other < room → slot ≢ other
      → rank slot ≢ rank other
  apart_from slot other within other_within differs same =
      differs (distinct slot other within other_within same)

  pub reranked_in_room : (slot : ℕ) → slot < room → reranked slot < room
  reranked_in_room slot within =
      let high_above = in_room above above_within in
      let high_below = in_room below below_within in
      let apart = ranks_apart in
      let own = in_room slot within in
      slot_cases (reranked slot < room) slot
      (λ same is. omega arith)
      (λ same is. omega arith)
      (λ off_above off_below. let lifts = rank_other slot off_above off_below in
      let not_above = apart_from slot above within above_within off_above in
      let not_below = apart_from slot below within below_within off_below in
      grind (arith, lifts.between, lifts.under, lifts.over))

  pub reranked_distinct : (slot other : ℕ) → slot < room → other < room
      → reranked slot ≡ reranked other → slot ≡ other
  reranked_distinct slot other within other_within same =
      let apart = ranks_apart in
      slot_cases (slot ≡ other) slot
      (λ is low_is. slot_cases (slot ≡ other) other (λ also low_also. is ∙ sym also)
      (λ also next_also. absurd (omega arith))
      (λ off_above off_below. let lifts = rank_other other off_above off_below in
      let not_above = apart_from other above other_within above_within off_above in
      let not_below = apart_from other below other_within below_within off_below in
      absurd (grind (arith, lifts.between, lifts.under, lifts.over))))
      (λ is next_is. slot_cases (slot ≡ other) other (λ also low_also. absurd (omega arith))
      (λ also next_also. is ∙ sym also)
      (λ off_above off_below. let lifts = rank_other other off_above off_below in
      let not_above = apart_from other above other_within above_within off_above in
      let not_below = apart_from other below other_within below_within off_below in
      absurd (grind (arith, lifts.between, lifts.under, lifts.over))))
      (λ off_above off_below. let lifts = rank_other slot off_above off_below in
      let not_above = apart_from slot above within above_within off_above in
      let not_below = apart_from slot below within below_within off_below in
      slot_cases (slot ≡ other) other
      (λ also low_also. absurd (grind (arith, lifts.between, lifts.under, lifts.over)))
      (λ also next_also. absurd (grind (arith, lifts.between, lifts.under, lifts.over)))
      (λ also_above also_below. let also = rank_other other also_above also_below in
      let other_not_above = apart_from other above other_within above_within also_above in
      let other_not_below = apart_from other below other_within below_within also_below in
      distinct slot other within other_within
      (grind (arith, lifts.between, lifts.under, lifts.over, also.between, also.under, also.over))))

  -- the order of the others stays
  pub reranked_rises : (slot other : ℕ) → slot < room → other < room → rank slot < rank other
      → slot ≢ above → slot ≢ below → other ≢ above → other ≢ below → reranked slot < reranked other
  reranked_rises slot other within other_within less slot_off_above slot_off_below other_off_above other_off_below =
      let lifts = rank_other slot slot_off_above slot_off_below in
      let also = rank_other other other_off_above other_off_below in
      let not_above = apart_from slot above within above_within slot_off_above in
      let not_below = apart_from slot below within below_within slot_off_below in
      let other_not_above = apart_from other above other_within above_within other_off_above in
      let other_not_below = apart_from other below other_within below_within other_off_below in
      grind (arith, lifts.between, lifts.under, lifts.over, also.between, also.under, also.over)
