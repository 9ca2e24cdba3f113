-- The cells of a wheel: where an expiry belongs, seen from a base.
use Rattle.std.specs.Prelude.{◌≡◌, ℕ, ◌*◌, ◌/◌, ◌%◌, ◌^◌, ◌<◌, ◌≢◌}
use Rattle.rb_wheel.specs.declared.cells.TheConstants.{DIGITS, DIGIT_BITS}

-- the level of a cell, and its digit there
abbrev pub level_of : ℕ → ℕ
level_of cell = cell / DIGITS

abbrev pub digit_of : ℕ → ℕ
digit_of cell = cell % DIGITS

-- a moment in units of a level: its digits from that level up
abbrev pub units : ℕ → ℕ → ℕ
units level moment = moment / 2 ^ (DIGIT_BITS * level)

-- a moment's digit on a level, and its digits above it
abbrev pub digit : ℕ → ℕ → ℕ
digit level moment = units level moment % DIGITS

abbrev pub above : ℕ → ℕ → ℕ
above level moment = units level moment / DIGITS

-- the cell has the expiry's digit, on the highest level on which that differs from the base's, or on
-- the lowest if none does
pub record IsCellOf (base expiry cell : ℕ) : Type 0 where
  pub same_digit : digit (level_of cell) expiry ≡ digit_of cell
  pub same_above : above (level_of cell) expiry ≡ above (level_of cell) base
  pub differs : 0 < level_of cell → digit (level_of cell) expiry ≢ digit (level_of cell) base
