-- Cells in their order hold expiries in their order, and what a new base leaves where it is.
use Rattle.std.proofs.Common.{◌≡◌, ℕ, ◌+◌, ◌-◌, ◌*◌, ◌/◌, ◌%◌, ◌^◌, ◌<◌, ◌≤◌, ◌≢◌, sym, ap, ◌∙◌, subst, arith, ⊎_elim, ◌⊎◌}
use Rattle.std.proofs.Math.Pow.{shr_mono}
use Rattle.std.proofs.lemmas.Bool.{cases_lt}
use Rattle.std.proofs.lemmas.Nat.{shr-shr}
use Rattle.rb_wheel.specs.Cells.{level_of, digit_of, units, digit, above, IsCellOf}
use Rattle.rb_wheel.proofs.HighestBit.{above_is_units}
use Rattle.rb_wheel.specs.declared.cells.TheConstants.{DIGITS, DIGIT_BITS}

-- a later moment has no fewer units
units_rise : (level a b : ℕ) → a ≤ b → units level a ≤ units level b
units_rise level a b le = shr_mono (DIGIT_BITS * level) le

-- fewer units are an earlier moment
earlier_from_units : (level a b : ℕ) → units level a < units level b → a < b
earlier_from_units level a b fewer = ⊎_elim
    (λ before. before)
    (λ after. absurd (let rise = units_rise level b a after in omega arith))
    (cases_lt a b)

-- moments with the same digits above a level have the same on each higher level
same_units_up : (level higher a b : ℕ) → level < higher → above level a ≡ above level b
    → units higher a ≡ units higher b
same_units_up level higher a b up same =
    let from : DIGIT_BITS * (level + 1) + DIGIT_BITS * (higher - (level + 1)) ≡ DIGIT_BITS * higher = omega arith in
    let shifted = λ (moment : ℕ). shr-shr moment (DIGIT_BITS * (level + 1)) (DIGIT_BITS * (higher - (level + 1))) ∙ ap (λ k. moment / 2 ^ k) from in
    sym (shifted a)
    ∙ ap (λ n. n / 2 ^ (DIGIT_BITS * (higher - (level + 1)))) (sym (above_is_units level a) ∙ same ∙ above_is_units level b)
    ∙ shifted b

module _ (base : ℕ) where
  -- an entry of a cell above the lowest level has more units there than the base
  more_units : (expiry cell : ℕ) → base ≤ expiry → IsCellOf base expiry cell → 0 < level_of cell
      → units (level_of cell) base < units (level_of cell) expiry
  more_units expiry cell after is up =
      let level = level_of cell in
      let rise = units_rise level base expiry after in
      let apart : units level expiry ≢ units level base = λ same. is.differs up (ap (λ n. n % DIGITS) same) in
      omega arith

  -- what lies in an earlier cell expires earlier: each entry of a lower level before those of the
  -- higher ones, and on one level the digit decides
  pub earlier_from_cells : (one other cell another : ℕ) → base ≤ other
      → IsCellOf base one cell → IsCellOf base other another → cell < another → one < other
  earlier_from_cells one other cell another after is is_other before = ⊎_elim
      (λ lower.
      let higher = level_of another in
      let same : units higher one ≡ units higher base = same_units_up (level_of cell) higher one base lower is.same_above in
      let more = more_units other another after is_other (omega arith) in
      earlier_from_units higher one other (omega arith))
      (λ not_lower.
      let level : level_of cell ≡ level_of another = omega arith in
      let digits : digit_of cell < digit_of another = omega arith in
      let aboves : above (level_of another) one ≡ above (level_of another) other =
      ap (λ l. above l one) (sym level) ∙ is.same_above ∙ ap (λ l. above l base) level ∙ sym is_other.same_above in
      let one_digit : digit (level_of another) one ≡ digit_of cell = ap (λ l. digit l one) (sym level) ∙ is.same_digit in
      let other_digit = is_other.same_digit in
      earlier_from_units (level_of another) one other (omega arith))
      (cases_lt (level_of cell) (level_of another))

-- all entries of a cell have the same units there
units_of_cell : (base expiry cell : ℕ) → IsCellOf base expiry cell → above (level_of cell) base * DIGITS + digit_of cell ≡ units (level_of cell) expiry
units_of_cell base expiry cell is =
    let digits = is.same_digit in
    let aboves = is.same_above in
    omega arith

module _ (base one other cell : ℕ) (is_one : IsCellOf base one cell) (is_other : IsCellOf base other cell) where
  same_units : units (level_of cell) other ≡ units (level_of cell) one
  same_units = sym (units_of_cell base other cell is_other) ∙ units_of_cell base one cell is_one

  -- above the lowest level each, seen from another of them, belongs on a lower level
  pub lower_from_one : (lower : ℕ) → 0 < level_of cell → IsCellOf one other lower → lower < cell
  lower_from_one lower up is_lower = ⊎_elim
      (λ down. omega arith)
      (λ not_down.
      let there = same_units in
      let level = level_of lower in
      let same : units level other ≡ units level one = ⊎_elim
      (λ higher. same_units_up (level_of cell) level other one higher (ap (λ n. n / DIGITS) there))
      (λ not_higher. let equal : level_of cell ≡ level = omega arith in
      subst (λ l. units l other ≡ units l one) equal there)
      (cases_lt (level_of cell) level) in
      absurd (is_lower.differs (omega arith) (ap (λ n. n % DIGITS) same)))
      (cases_lt (level_of lower) (level_of cell))

-- the base moves to `next`, an entry of the first cell, and another cell comes no earlier
module _ (base next cell : ℕ) (is_next : IsCellOf base next cell)
    (expiry another : ℕ) (is : IsCellOf base expiry another) where
  next_units_higher : level_of cell < level_of another → units (level_of another) next ≡ units (level_of another) base
  next_units_higher higher = same_units_up (level_of cell) (level_of another) next base higher is_next.same_above

  next_above : cell ≤ another → above (level_of another) next ≡ above (level_of another) base
  next_above not_before = ⊎_elim
      (λ higher. ap (λ n. n / DIGITS) (next_units_higher higher))
      (λ not_higher. let equal : level_of cell ≡ level_of another = omega arith in
      subst (λ l. above l next ≡ above l base) equal is_next.same_above)
      (cases_lt (level_of cell) (level_of another))

  -- an entry of another cell has a digit that still differs
  digits_differ : cell < another → 0 < level_of another → digit (level_of another) expiry ≢ digit (level_of another) next
  digits_differ later some = ⊎_elim
      (λ higher same. is.differs some (same ∙ ap (λ n. n % DIGITS) (next_units_higher higher)))
      (λ not_higher same.
      let equal : level_of cell ≡ level_of another = omega arith in
      let first_digit : digit (level_of another) next ≡ digit_of cell = subst (λ l. digit l next ≡ digit_of cell) equal is_next.same_digit in
      let own_digit : digit (level_of another) expiry ≡ digit_of another = is.same_digit in
      let digits : digit_of another ≡ digit_of cell = sym own_digit ∙ same ∙ first_digit in
      omega arith)
      (cases_lt (level_of cell) (level_of another))

  -- it is still in its cell
  pub IsCellOf-next : cell ≤ another → (cell < another) ⊎ (level_of another ≡ 0) → IsCellOf next expiry another
  IsCellOf-next not_before either = record {
    same_digit = is.same_digit;
    same_above = is.same_above ∙ sym (next_above not_before);
    differs = λ some. ⊎_elim (λ later. digits_differ later some) (λ lowest. absurd (omega arith)) either;
  }
