-- What a timer contains, and which of its entries are least.
use Rattle.std.specs.Prelude.{◌≡◌, ℕ, ◌<◌, ◌≤◌, Option, Some, None, IfSome}
use Rattle.std.specs.Ordering.{nat_cmp}
use Rattle.std.specs.FinMap as map

-- a finite map from slot to expiry
abbrev pub Content : Type 0
Content = map.FinMap nat_cmp ℕ

-- the entry is there, and no entry has a smaller expiry
pub record IsLeastSlot (content : Content) (slot expiry : ℕ) : Type 0 where
  pub present : map.get content slot ≡ Some expiry
  pub least : (other : ℕ) → IfSome (map.get content other) (λ another. expiry ≤ another)

-- an entry of least expiry, or none if the content is empty
abbrev pub IsLeastEntry : Content → Option (ℕ × ℕ) → Type 0
IsLeastEntry content None = content ≡ map.empty
IsLeastEntry content (Some entry) = IsLeastSlot content entry.0 entry.1

-- an entry of least expiry if that is at most `now`, or none if every expiry is later
abbrev pub IsDueEntry : Content → ℕ → Option (ℕ × ℕ) → Type 0
IsDueEntry content now None = (slot : ℕ) → IfSome (map.get content slot) (λ expiry. now < expiry)
IsDueEntry content now (Some entry) = IsLeastSlot content entry.0 entry.1 × (entry.1 ≤ now)
