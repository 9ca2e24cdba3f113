-- How the entries of a wheel lie, seen from its base.
use Rattle.std.specs.Prelude.{◌≡◌, ◌≢◌, ◌^◌, ◌⊎◌, ℕ, ◌<◌, ◌≤◌, List, length, Option, Some}
use Rattle.std.specs.Prelude.{None, IfSome, IsSomeAnd, is_some, count_by}
use Rattle.std.specs.FinMap as map
use Rattle.rb_timer.specs.Content.{Content}
use Rattle.rb_wheel.specs.declared.marks.Marks.{Marks}
use Rattle.rb_wheel.specs.Cells.{IsCellOf}
use Rattle.rb_wheel.specs.Lists.{cell_at, slot_expiry}
use Rattle.rb_wheel.specs.Marks.{mark_at}

-- each expiry is a moment
abbrev pub AreMoments : List (Option ℕ) → Type 0
AreMoments expiries = (slot : ℕ) → IfSome (slot_expiry expiries slot) (λ expiry. expiry < 2 ^ 64)

-- an entry lies right: in the cell of its expiry, or in none if it expires before the base
abbrev pub LiesRight : ℕ → Option ℕ → Option ℕ → Type 0
LiesRight base None cell = cell ≡ None
LiesRight base (Some expiry) None = expiry < base
LiesRight base (Some expiry) (Some cell) = (base ≤ expiry) × IsCellOf base expiry cell

-- each entry lies right
pub record LieRight (base : ℕ) (expiries cells : List (Option ℕ)) : Type 0 where
  pub each : (slot : ℕ) → LiesRight base (slot_expiry expiries slot) (cell_at cells slot)

-- each entry lies right, except those of one cell, which belong in cells before it
pub record MaySpread (base cell : ℕ) (expiries cells : List (Option ℕ)) : Type 0 where
  pub others : (slot : ℕ) → cell_at cells slot ≢ Some cell
      → LiesRight base (slot_expiry expiries slot) (cell_at cells slot)
  pub inside : (slot : ℕ) → cell_at cells slot ≡ Some cell
      → IsSomeAnd (slot_expiry expiries slot)
      (λ expiry. (base ≤ expiry) × ((lower : ℕ) → IsCellOf base expiry lower → lower < cell))

-- the entries of the cell expire at one moment
abbrev pub ExpireTogether : List (Option ℕ) → List (Option ℕ) → ℕ → Type 0
ExpireTogether expiries cells cell = (slot other : ℕ) → cell_at cells slot ≡ Some cell → cell_at cells other ≡ Some cell
    → slot_expiry expiries slot ≡ slot_expiry expiries other

-- the cell waits, and slots that lay in waiting cells still do
abbrev pub Waits : Marks → Option ℕ → Type 0
Waits waiting cell = IsSomeAnd cell (λ at. mark_at waiting at ≡ 1)

abbrev pub StillWait : Marks → List (Option ℕ) → Marks → List (Option ℕ) → Type 0
StillWait waiting cells new_waiting new_cells =
    (slot : ℕ) → Waits waiting (cell_at cells slot) → Waits new_waiting (cell_at new_cells slot)

-- the early timer has the same but at one slot
abbrev pub IsSameElsewhere : ℕ → Content → Content → Type 0
IsSameElsewhere slot early new_early = (other : ℕ) → other ≢ slot → map.get new_early other ≡ map.get early other

-- it has at a slot what the slot has
abbrev pub IsThere : List (Option ℕ) → Content → ℕ → Type 0
IsThere expiries early slot = map.get early slot ≡ slot_expiry expiries slot

-- it has at each slot that or nothing
abbrev pub AreCopies : List (Option ℕ) → Content → Type 0
AreCopies expiries early = (slot : ℕ) → IsThere expiries early slot ⊎ (map.get early slot ≡ None)

-- what was there still is
abbrev pub AreStillThere : List (Option ℕ) → Content → Content → Type 0
AreStillThere expiries early new_early = (slot : ℕ) → IsThere expiries early slot → IsThere expiries new_early slot

-- each entry is there, or lies in a waiting cell
pub record Stand (expiries cells : List (Option ℕ)) (early : Content) (waiting : Marks) : Type 0 where
  pub each : (slot : ℕ) → IsThere expiries early slot
      ⊎ ((map.get early slot ≡ None) × Waits waiting (cell_at cells slot))

-- no expiry is before that of the entry
abbrev pub IsNoEarlier : Option (ℕ × ℕ) → Option ℕ → Type 0
IsNoEarlier None expiry = ⊥
IsNoEarlier (Some entry) expiry = IfSome expiry (λ another. entry.1 ≤ another)

-- an entry, before which none expires that is not in the early timer; or none if all are there
pub record IsFirst (expiries : List (Option ℕ)) (early : Content) (first : Option (ℕ × ℕ)) : Type 0 where
  pub expires : IfSome first (λ entry. slot_expiry expiries entry.0 ≡ Some entry.1)
  pub others : (slot : ℕ) → IsThere expiries early slot ⊎ IsNoEarlier first (slot_expiry expiries slot)

-- the wheel's parts agree: each entry lies right, in its cell or in none, and stands in the early timer or
-- in a waiting cell; there is room for each in both; and the first is one of least expiry among those
-- that are not in the early timer
pub record IsWheel (expiries cells : List (Option ℕ)) (early : Content) (room : ℕ) (waiting : Marks) (base len : ℕ)
    (first : Option (ℕ × ℕ)) : Type 0 where
  pub right : LieRight base expiries cells
  pub moments : AreMoments expiries
  pub stand : Stand expiries cells early waiting
  pub in_lists : length expiries ≤ length cells
  pub in_early : length expiries ≤ room
  pub counted : len ≡ count_by is_some expiries
  pub is_first : IsFirst expiries early first
