-- The mark of a cell in the words of the levels, after one word was written.
use Rattle.std.proofs.Common.{◌≡◌, ℕ, zero, suc, refl, ◌+◌, ◌*◌, ◌/◌, ◌%◌, ◌^◌, ◌<◌, ◌≤◌, ◌≢◌, List, length, get_or, set, sym, ap, ◌∙◌, arith, ⊎_elim, get_or-set_same, get_or-set_other, w64}
use Rattle.std.specs.Int.{bit_at, trailing_zeros, bit_not}
use Rattle.std.specs.Int.RustNames.{bit_or}
use lib.Bits.{bit_and}
use Rattle.std.proofs.lemmas.Bool.{cases_eq, cases_lt}
use Rattle.std.proofs.lemmas.Nat.Bits.{bit_at_set_same, bit_at_set_other, bit_at_clear_same, bit_at_clear_other, bit_at-zero, bit_at-trailing_zeros}
use Rattle.rb_wheel.specs.declared.cells.TheConstants.{DIGITS}
use Rattle.rb_wheel.specs.declared.marks.Marks.{Marks}
use Rattle.rb_wheel.specs.Marks.{mark_at}

abbrev mark : List ℕ → ℕ → ℕ
mark words cell = bit_at (get_or words (cell / DIGITS) 0) (cell % DIGITS)

-- a cell is known by its level and its digit
digits_apart : (cell other : ℕ) → other ≢ cell → other / DIGITS ≡ cell / DIGITS → other % DIGITS ≢ cell % DIGITS
digits_apart cell other apart level digit = apart (omega arith)

module _ (words : List ℕ) (cell word : ℕ) (within : cell / DIGITS < length words) where
  mark-set_same : mark (set words (cell / DIGITS) word) cell ≡ bit_at word (cell % DIGITS)
  mark-set_same = ap (λ w. bit_at w (cell % DIGITS)) (get_or-set_same words (cell / DIGITS) word 0 within)

  mark-set_other : ((i : ℕ) → i < DIGITS → i ≢ cell % DIGITS → bit_at word i ≡ bit_at (get_or words (cell / DIGITS) 0) i)
      → (other : ℕ) → other ≢ cell → mark (set words (cell / DIGITS) word) other ≡ mark words other
  mark-set_other same other apart = ⊎_elim
      (λ level.
      ap (λ l. bit_at (get_or (set words (cell / DIGITS) word) l 0) (other % DIGITS)) level
      ∙ ap (λ w. bit_at w (other % DIGITS)) (get_or-set_same words (cell / DIGITS) word 0 within)
      ∙ same (other % DIGITS) (omega arith) (digits_apart cell other apart level)
      ∙ ap (λ l. bit_at (get_or words l 0) (other % DIGITS)) (sym level))
      (λ level. ap (λ w. bit_at w (other % DIGITS)) (get_or-set_other words (cell / DIGITS) (other / DIGITS) word 0 level))
      (cases_eq (other / DIGITS) (cell / DIGITS))

-- a cell that is marked, and one whose mark is taken off
abbrev pub with_bit : ℕ → ℕ → ℕ
with_bit word k = bit_or word (1 * 2 ^ k % 2 ^ 64)

abbrev pub without_bit : ℕ → ℕ → ℕ
without_bit word k = bit_and word (bit_not w64 (1 * 2 ^ k % 2 ^ 64))

module _ (words : List ℕ) (cell : ℕ) (within : cell / DIGITS < length words) where
  pub mark-insert_same : mark (set words (cell / DIGITS) (with_bit (get_or words (cell / DIGITS) 0) (cell % DIGITS))) cell ≡ 1
  mark-insert_same =
      mark-set_same words cell _ within
      ∙ bit_at_set_same w64 (get_or words (cell / DIGITS) 0) (cell % DIGITS) (omega arith)

  pub mark-insert_other : (other : ℕ) → other ≢ cell
      → mark (set words (cell / DIGITS) (with_bit (get_or words (cell / DIGITS) 0) (cell % DIGITS))) other ≡ mark words other
  mark-insert_other =
      mark-set_other words cell _ within
      (λ i small apart. bit_at_set_other w64 (get_or words (cell / DIGITS) 0) (cell % DIGITS) (omega arith) i apart)

  pub mark-remove_same : mark (set words (cell / DIGITS) (without_bit (get_or words (cell / DIGITS) 0) (cell % DIGITS))) cell ≡ 0
  mark-remove_same =
      mark-set_same words cell _ within
      ∙ bit_at_clear_same w64 (get_or words (cell / DIGITS) 0) (cell % DIGITS) (omega arith)

  pub mark-remove_other : (other : ℕ) → other ≢ cell
      → mark (set words (cell / DIGITS) (without_bit (get_or words (cell / DIGITS) 0) (cell % DIGITS))) other ≡ mark words other
  mark-remove_other =
      mark-set_other words cell _ within
      (λ i small apart. bit_at_clear_other w64 (get_or words (cell / DIGITS) 0) (cell % DIGITS) (omega arith) i small apart)

-- where each word before one is 0, and that one is not, its lowest bit marks the first cell
module _ (words : List ℕ) (level : ℕ) (low : (k : ℕ) → k < level → get_or words k 0 ≡ 0) where
  no_mark_below : (cell : ℕ) → cell / DIGITS < level → mark words cell ≡ 0
  no_mark_below cell below =
      ap (λ w. bit_at w (cell % DIGITS)) (low (cell / DIGITS) below) ∙ bit_at-zero (cell % DIGITS)

  module _ (word : ℕ) (is : word ≡ get_or words level 0) (some : 0 < word) (fits : word < 2 ^ 64) where
    abbrev pub first_digit : ℕ
    first_digit = trailing_zeros w64 word

    first_small : first_digit < DIGITS
    first_small = (bit_at-trailing_zeros w64 word some fits).0

    at_level : (level * DIGITS + first_digit) / DIGITS ≡ level
    at_level = let small = first_small in omega arith

    at_digit : (level * DIGITS + first_digit) % DIGITS ≡ first_digit
    at_digit = let small = first_small in omega arith

    pub first_marked : mark words (level * DIGITS + first_digit) ≡ 1
    first_marked =
        ap (λ l. bit_at (get_or words l 0) ((level * DIGITS + first_digit) % DIGITS)) at_level
        ∙ ap (bit_at (get_or words level 0)) at_digit
        ∙ ap (λ w. bit_at w first_digit) (sym is)
        ∙ (bit_at-trailing_zeros w64 word some fits).1

    pub first_least : (other : ℕ) → mark words other ≡ 1 → level * DIGITS + first_digit ≤ other
    first_least other marked = ⊎_elim
        (λ before. ⊎_elim
        (λ below. absurd (let none = no_mark_below other below in omega arith))
        (λ from.
        let level_is : other / DIGITS ≡ level = let small = first_small in omega arith in
        let lower : other % DIGITS < first_digit = omega arith in
        absurd (let zero : mark words other ≡ 0 = ap (λ l. bit_at (get_or words l 0) (other % DIGITS)) level_is
        ∙ ap (λ w. bit_at w (other % DIGITS)) (sym is)
        ∙ (bit_at-trailing_zeros w64 word some fits).2 (other % DIGITS) lower in omega arith))
        (cases_lt (other / DIGITS) level))
        (λ after. after)
        (cases_lt other (level * DIGITS + first_digit))

-- how many cells below one are marked
pub count_marked : Marks → ℕ → ℕ
count_marked marks zero = 0
count_marked marks (suc cell) = mark_at marks cell + count_marked marks cell

-- one less is once one of them is not
module _ (marks new_marks : Marks) (cell : ℕ) (was : mark_at marks cell ≡ 1) (here : mark_at new_marks cell ≡ 0)
    (elsewhere : (other : ℕ) → other ≢ cell → mark_at new_marks other ≡ mark_at marks other) where
  count-same : (below : ℕ) → below ≤ cell → count_marked new_marks below ≡ count_marked marks below
  unfolding count_marked
  count-same zero low = refl
  count-same (suc other) low =
      let same = elsewhere other (omega arith) in
      let others = count-same other (omega arith) in
      omega (arith, same, others)

  pub count-less : (below : ℕ) → cell < below → count_marked new_marks below < count_marked marks below
  unfolding count_marked
  count-less zero low = absurd (omega arith)
  count-less (suc other) low = ⊎_elim
      (λ same.
      let others = count-same other (omega arith) in
      let now : mark_at new_marks other ≡ 0 = ap (mark_at new_marks) same ∙ here in
      let before : mark_at marks other ≡ 1 = ap (mark_at marks) same ∙ was in
      omega (arith, others, now, before))
      (λ apart.
      let same = elsewhere other apart in
      let others = count-less other (omega arith) in
      omega (arith, same, others))
      (cases_eq other cell)
