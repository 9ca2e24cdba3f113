-- Which elements of a bag come first.
use Rattle.std.specs.Prelude.{◌≡◌, ℕ, ◌≤◌, Option, Some, IfSome, IsSomeAnd, MatchOption}
use Rattle.std.specs.FinMap as map
use Rattle.rb_delayed.specs.declared.element.Element.{Element}
use Rattle.rb_delayed.specs.Moment.{IsExpired}
use Rattle.rb_queue.specs.Bag.{Bag}

-- the element is in the bag, and no element of the bag has a smaller expiry
pub record IsLeast (bag : Bag) (element : Element) : Type 0 where
  pub present : map.get bag element.id ≡ Some element
  pub least : (id : ℕ) → IfSome (map.get bag id) (λ other. element.expiry ≤ other.expiry)

-- The head is the element whose delay expired furthest in the past: it is least, and it is expired.
-- Of several least elements any may be the head.
pub record IsHead (bag : Bag) (now : ℕ) (element : Element) : Type 0 where
  pub least : IsLeast bag element
  pub expired : IsExpired element.expiry now

-- the id is a head's
abbrev pub IsHeadId : Bag → ℕ → ℕ → Type 0
IsHeadId bag now id = IsSomeAnd (map.get bag id) (IsHead bag now)

-- some least element has this expiry
abbrev pub IsLeastExpiry : Bag → ℕ → Type 0
IsLeastExpiry bag expiry = (element : Element) × IsLeast bag element × (element.expiry ≡ expiry)

-- the least expiry, or none if the bag is empty
abbrev pub IsNextExpiry : Bag → Option ℕ → Type 0
IsNextExpiry bag expiry = MatchOption expiry (bag ≡ map.empty) (IsLeastExpiry bag)
