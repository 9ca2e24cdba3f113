-- How the entries are linked: as trees whose links agree both ways, in which no entry expires before
-- its parent.
use Rattle.std.specs.Prelude.{◌≡◌, ℕ, ◌<◌, ◌≤◌, ◌≢◌, List, length, Option, Some, None, IsSome}
use Rattle.rb_pairing.specs.declared.node.Node.{Node}
use Rattle.rb_pairing.specs.Nodes.{expiry_of, child_of, next_of, previous_of, moment_of}

-- the slot links to no other
pub record HasNoLinks (nodes : List Node) (slot : ℕ) : Type 0 where
  pub child : child_of nodes slot ≡ None
  pub next : next_of nodes slot ≡ None
  pub previous : previous_of nodes slot ≡ None

-- `parent` says under which entry each hangs. `rank`, which numbers the slots of the room, only rises
-- along the links of a tree, so no path down a tree or along a row comes back.
pub record IsForest (nodes : List Node) (parent rank : ℕ → ℕ) : Type 0 where
  pub vacant : (slot : ℕ) → expiry_of nodes slot ≡ None → HasNoLinks nodes slot
  pub child_back : (slot child : ℕ) → child_of nodes slot ≡ Some child
      → previous_of nodes child ≡ Some slot
  pub next_back : (slot next : ℕ) → next_of nodes slot ≡ Some next
      → previous_of nodes next ≡ Some slot
  pub linked : (slot previous : ℕ) → previous_of nodes slot ≡ Some previous
      → child_of nodes previous ≢ Some slot → next_of nodes previous ≡ Some slot
  pub apart : (slot child : ℕ) → child_of nodes slot ≡ Some child → next_of nodes slot ≢ Some child
  pub alone : (slot : ℕ) → previous_of nodes slot ≡ None → next_of nodes slot ≡ None
  pub first : (slot child : ℕ) → child_of nodes slot ≡ Some child → parent child ≡ slot
  pub row : (slot next : ℕ) → next_of nodes slot ≡ Some next → parent next ≡ parent slot
  pub ordered : (slot previous : ℕ) → previous_of nodes slot ≡ Some previous
      → moment_of nodes (parent slot) ≤ moment_of nodes slot
  pub rises : (slot previous : ℕ) → previous_of nodes slot ≡ Some previous
      → rank previous < rank slot
  pub in_room : (slot : ℕ) → slot < length nodes → rank slot < length nodes
  pub distinct : (slot other : ℕ) → slot < length nodes → other < length nodes
      → rank slot ≡ rank other → slot ≡ other

-- trees of entries
pub record Forest (nodes : List Node) : Type 0 where
  pub parent : ℕ → ℕ
  pub rank : ℕ → ℕ
  pub is_forest : IsForest nodes parent rank

-- the nodes form trees
abbrev pub LieAsTrees : List Node → Type 0
LieAsTrees nodes = ∥ Forest nodes ∥₁

-- the entry is in no row
pub record IsTop (nodes : List Node) (slot : ℕ) : Type 0 where
  pub present : IsSome (expiry_of nodes slot)
  pub alone : previous_of nodes slot ≡ None

-- the entry is in the row under `parent`
pub record Row (nodes : List Node) (parent slot : ℕ) : Type 0 where
  pub forest : Forest nodes
  pub under : forest.parent slot ≡ parent
  pub in_row : IsSome (previous_of nodes slot)

abbrev pub IsInRow : List Node → ℕ → ℕ → Type 0
IsInRow nodes parent slot = ∥ Row nodes parent slot ∥₁

-- one tree of all entries: only the root is in no row
pub record IsTree (nodes : List Node) (root : Option ℕ) : Type 0 where
  pub linked : LieAsTrees nodes
  pub top : (slot : ℕ) → root ≡ Some slot → IsTop nodes slot
  pub only : (slot : ℕ) → IsTop nodes slot → root ≡ Some slot

-- the slot, if there is one, has an entry
abbrev pub IsEntry : List Node → Option ℕ → Type 0
IsEntry nodes at = (slot : ℕ) → at ≡ Some slot → IsSome (expiry_of nodes slot)
