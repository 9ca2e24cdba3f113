-- A set of cells, as one word for each level with a bit for each digit.
use Rattle.std.specs.Prelude.{◌≡◌, ℕ, ◌/◌, ◌%◌, ◌≤◌, Option, Some, None, slice_index}
use Rattle.std.specs.Int.{bit_at}
use Rattle.rb_wheel.specs.declared.marks.Marks.{Marks}
use Rattle.rb_wheel.specs.declared.cells.TheConstants.{DIGITS}

-- 1 if the cell is marked, otherwise 0
abbrev pub mark_at : Marks → ℕ → ℕ
mark_at marks cell = bit_at (slice_index marks.words (cell / DIGITS)) (cell % DIGITS)

-- the first marked cell, or none if none is marked
abbrev pub IsFirstMarked : Marks → Option ℕ → Type 0
IsFirstMarked marks None = (cell : ℕ) → mark_at marks cell ≡ 0
IsFirstMarked marks (Some cell) = (mark_at marks cell ≡ 1) × ((other : ℕ) → mark_at marks other ≡ 1 → cell ≤ other)
