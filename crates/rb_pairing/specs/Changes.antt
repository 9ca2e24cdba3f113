-- What the steps of a pairing heap change in the nodes.
use Rattle.std.specs.Prelude.{◌≡◌, ℕ, ◌≤◌, ◌≢◌, ◌⊎◌, List, Option, Some, None, IsSome, is_some, true}
use Rattle.rb_pairing.specs.declared.node.Node.{Node}
use Rattle.rb_pairing.specs.Nodes.{expiry_of, child_of, next_of, previous_of, expiries, moment_of}
use Rattle.rb_pairing.specs.Forest.{HasNoLinks, LieAsTrees, IsTop}

-- if there is a slot, what comes before it is set
pub record SetsPrevious (old new : List Node) (slot previous : Option ℕ) : Type 0 where
  pub expiries : expiries new ≡ expiries old
  pub child : (other : ℕ) → child_of new other ≡ child_of old other
  pub next : (other : ℕ) → next_of new other ≡ next_of old other
  pub here : (other : ℕ) → slot ≡ Some other → previous_of new other ≡ previous
  pub elsewhere : (other : ℕ) → slot ≢ Some other → previous_of new other ≡ previous_of old other

-- the slot, if there is one, has `to` as the first under it if that was `from`, and otherwise as the next
pub record SetsLink (old new : List Node) (slot : Option ℕ) (from : ℕ) (to : Option ℕ) : Type 0 where
  pub expiries : expiries new ≡ expiries old
  pub previous : (other : ℕ) → previous_of new other ≡ previous_of old other
  pub child : (other : ℕ) → slot ≡ Some other → child_of old other ≡ Some from
      → child_of new other ≡ to
  pub child_stays : (other : ℕ) → (slot ≡ Some other → child_of old other ≢ Some from)
      → child_of new other ≡ child_of old other
  pub next : (other : ℕ) → slot ≡ Some other → child_of old other ≢ Some from
      → next_of new other ≡ to
  pub next_stays : (other : ℕ) → (slot ≡ Some other → child_of old other ≡ Some from)
      → next_of new other ≡ next_of old other

-- what comes before the slot and after it is set
pub record SetsPlace (old new : List Node) (slot : ℕ) (before behind : Option ℕ) : Type 0 where
  pub expiries : expiries new ≡ expiries old
  pub child : (other : ℕ) → child_of new other ≡ child_of old other
  pub next : next_of new slot ≡ behind
  pub next_elsewhere : (other : ℕ) → other ≢ slot → next_of new other ≡ next_of old other
  pub previous : previous_of new slot ≡ before
  pub previous_elsewhere : (other : ℕ) → other ≢ slot → previous_of new other ≡ previous_of old other

-- the first of the row under the slot is set
pub record SetsChild (old new : List Node) (slot child : ℕ) : Type 0 where
  pub expiries : expiries new ≡ expiries old
  pub next : (other : ℕ) → next_of new other ≡ next_of old other
  pub previous : (other : ℕ) → previous_of new other ≡ previous_of old other
  pub here : child_of new slot ≡ Some child
  pub elsewhere : (other : ℕ) → other ≢ slot → child_of new other ≡ child_of old other

-- the slot links to no other
pub record ClearsLinks (old new : List Node) (slot : ℕ) : Type 0 where
  pub expiries : expiries new ≡ expiries old
  pub none : HasNoLinks new slot
  pub child : (other : ℕ) → other ≢ slot → child_of new other ≡ child_of old other
  pub next : (other : ℕ) → other ≢ slot → next_of new other ≡ next_of old other
  pub previous : (other : ℕ) → other ≢ slot → previous_of new other ≡ previous_of old other

-- the slot's neighbours in its row link past it: each links to the other instead
pub record Bypasses (old new : List Node) (slot : ℕ) : Type 0 where
  pub expiries : expiries new ≡ expiries old
  pub child : (other : ℕ) → child_of old other ≡ Some slot → child_of new other ≡ next_of old slot
  pub child_stays : (other : ℕ) → child_of old other ≢ Some slot
      → child_of new other ≡ child_of old other
  pub next : (other : ℕ) → next_of old other ≡ Some slot → next_of new other ≡ next_of old slot
  pub next_stays : (other : ℕ) → next_of old other ≢ Some slot
      → next_of new other ≡ next_of old other
  pub previous : (other : ℕ) → next_of old slot ≡ Some other
      → previous_of new other ≡ previous_of old slot
  pub previous_stays : (other : ℕ) → next_of old slot ≢ Some other
      → previous_of new other ≡ previous_of old other

-- the slot is taken out of its row, and its neighbours there link to each other
pub record Cuts (old new : List Node) (slot : ℕ) : Type 0 where
  pub expiries : expiries new ≡ expiries old
  pub child : (other : ℕ) → child_of old other ≡ Some slot → child_of new other ≡ next_of old slot
  pub child_stays : (other : ℕ) → child_of old other ≢ Some slot
      → child_of new other ≡ child_of old other
  pub next_own : next_of new slot ≡ None
  pub next : (other : ℕ) → next_of old other ≡ Some slot → next_of new other ≡ next_of old slot
  pub next_stays : (other : ℕ) → other ≢ slot → next_of old other ≢ Some slot
      → next_of new other ≡ next_of old other
  pub previous_own : previous_of new slot ≡ None
  pub previous : (other : ℕ) → next_of old slot ≡ Some other
      → previous_of new other ≡ previous_of old slot
  pub previous_stays : (other : ℕ) → other ≢ slot → next_of old slot ≢ Some other
      → previous_of new other ≡ previous_of old other

-- the slot leaves its place to `by`, the only one under it: what linked to the slot links to `by`
pub record Replaces (old new : List Node) (slot by : ℕ) : Type 0 where
  pub expiries : expiries new ≡ expiries old
  pub none : HasNoLinks new slot
  pub child : (other : ℕ) → child_of old other ≡ Some slot → child_of new other ≡ Some by
  pub child_stays : (other : ℕ) → other ≢ slot → child_of old other ≢ Some slot
      → child_of new other ≡ child_of old other
  pub next_own : next_of new by ≡ next_of old slot
  pub next : (other : ℕ) → next_of old other ≡ Some slot → next_of new other ≡ Some by
  pub next_stays : (other : ℕ) → other ≢ slot → other ≢ by → next_of old other ≢ Some slot
      → next_of new other ≡ next_of old other
  pub previous_own : previous_of new by ≡ previous_of old slot
  pub previous : (other : ℕ) → next_of old slot ≡ Some other → previous_of new other ≡ Some by
  pub previous_stays : (other : ℕ) → other ≢ slot → other ≢ by → next_of old slot ≢ Some other
      → previous_of new other ≡ previous_of old other

-- the slot is put first into the row under `parent`
pub record Adopts (old new : List Node) (parent slot : ℕ) : Type 0 where
  pub expiries : expiries new ≡ expiries old
  pub child : child_of new parent ≡ Some slot
  pub child_stays : (other : ℕ) → other ≢ parent → child_of new other ≡ child_of old other
  pub next : next_of new slot ≡ child_of old parent
  pub next_stays : (other : ℕ) → other ≢ slot → next_of new other ≡ next_of old other
  pub previous_own : previous_of new slot ≡ Some parent
  pub previous : (other : ℕ) → child_of old parent ≡ Some other → previous_of new other ≡ Some slot
  pub previous_stays : (other : ℕ) → other ≢ slot → child_of old parent ≢ Some other
      → previous_of new other ≡ previous_of old other

-- `later` is taken out of its row, and put under `earlier`
pub record Moves (old new : List Node) (earlier later : ℕ) : Type 0 where
  pub between : List Node
  pub ordered : moment_of old earlier ≤ moment_of old later
  pub cuts : Cuts old between later
  pub adopts : Adopts between new earlier later

-- one of two neighbours is moved under the other, which stays
abbrev pub Joins : List Node → List Node → ℕ → ℕ → ℕ → Type 0
Joins old new left right stays =
    ((stays ≡ left) × Moves old new left right) ⊎ ((stays ≡ right) × Moves old new right left)

-- the same entries form other trees, and the same ones are in no row
pub record Relinks (old new : List Node) : Type 0 where
  pub linked : LieAsTrees new
  pub expiries : expiries new ≡ expiries old
  pub tops : (slot : ℕ) → is_some (previous_of new slot) ≡ is_some (previous_of old slot)

-- the entries under `parent`, if there are any, are joined into one tree
pub record JoinsChildren (old new : List Node) (parent : ℕ) (left : Option ℕ) : Type 0 where
  pub relinks : Relinks old new
  pub child : child_of new parent ≡ left
  pub only : (slot : ℕ) → left ≡ Some slot → next_of new slot ≡ None

-- the slot is taken out of its tree: those that were under it hang under one of them, the heir,
-- which is in a row exactly if the slot was in one
pub record Unlinks (old new : List Node) (slot : ℕ) (heir : Option ℕ) : Type 0 where
  pub linked : LieAsTrees new
  pub expiries : expiries new ≡ expiries old
  pub none : HasNoLinks new slot
  pub apart : heir ≢ Some slot
  pub present : (other : ℕ) → heir ≡ Some other → IsSome (expiry_of new other)
  pub was_in_row : (other : ℕ) → heir ≡ Some other → is_some (previous_of old other) ≡ true
  pub place : (other : ℕ) → heir ≡ Some other
      → is_some (previous_of new other) ≡ is_some (previous_of old slot)
  pub tops : (other : ℕ) → other ≢ slot → heir ≢ Some other
      → is_some (previous_of new other) ≡ is_some (previous_of old other)

-- one of two entries in no row is put under the other, which is left
pub record Melds (old new : List Node) (one other left : Option ℕ) : Type 0 where
  pub linked : LieAsTrees new
  pub expiries : expiries new ≡ expiries old
  pub top : (slot : ℕ) → left ≡ Some slot → IsTop new slot
  pub of_one : (slot : ℕ) → one ≡ Some slot → previous_of new slot ≡ None → left ≡ Some slot
  pub of_other : (slot : ℕ) → other ≡ Some slot → previous_of new slot ≡ None → left ≡ Some slot
  pub tops : (slot : ℕ) → one ≢ Some slot → other ≢ Some slot
      → is_some (previous_of new slot) ≡ is_some (previous_of old slot)
