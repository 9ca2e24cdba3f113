-- The lists of slots, one for each cell, as callers see them.
use Rattle.std.specs.Prelude.{◌≡◌, ℕ, ◌≤◌, ◌≢◌, List, Option, Some, None, IfSome, IsSome, slice_index_or}

-- at each slot its entry's expiry, and the cell that it lies in, or none
pub record Slots : Type 0 where
  pub expiries : List (Option ℕ)
  pub cells : List (Option ℕ)

-- the cell that a slot lies in
abbrev pub cell_at : List (Option ℕ) → ℕ → Option ℕ
cell_at cells slot = slice_index_or cells slot None

-- a slot's expiry
abbrev pub slot_expiry : List (Option ℕ) → ℕ → Option ℕ
slot_expiry expiries slot = slice_index_or expiries slot None

-- some slot lies in the cell
abbrev pub IsHeld : List (Option ℕ) → ℕ → Type 0
IsHeld cells cell = (slot : ℕ) × (cell_at cells slot ≡ Some cell)

-- no slot lies in the cell
abbrev pub IsVacant : List (Option ℕ) → ℕ → Type 0
IsVacant cells cell = (slot : ℕ) → cell_at cells slot ≢ Some cell

-- the slot lies in the cell, and no slot of that cell expires before it
pub record IsLeastIn (cells expiries : List (Option ℕ)) (cell slot expiry : ℕ) : Type 0 where
  pub lies : cell_at cells slot ≡ Some cell
  pub expires : slot_expiry expiries slot ≡ Some expiry
  pub least : (other : ℕ) → cell_at cells other ≡ Some cell
      → IfSome (slot_expiry expiries other) (λ another. expiry ≤ another)

-- each slot of the cell has an expiry
abbrev pub HasExpiries : List (Option ℕ) → List (Option ℕ) → ℕ → Type 0
HasExpiries cells expiries cell = (slot : ℕ) → cell_at cells slot ≡ Some cell → IsSome (slot_expiry expiries slot)
