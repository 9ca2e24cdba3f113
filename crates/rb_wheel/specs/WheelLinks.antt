-- How the lists lie: at each cell its first slot, at each slot its neighbours.
use Rattle.std.specs.Prelude.{◌≡◌, ℕ, ◌<◌, ◌≤◌, List, length, map, Option, Some, None, slice_index_or, slice_set}
use Rattle.rb_wheel.specs.declared.node.Node.{Node}
use Rattle.rb_wheel.specs.declared.cells.TheConstants.{CELLS}
use Rattle.rb_wheel.specs.Lists.{Slots}
use Rattle.rb_wheel.specs.Nodes.{node_at, expiry_of, with_previous}

-- a cell's first slot
abbrev pub head_at : List (Option ℕ) → ℕ → Option ℕ
head_at heads cell = slice_index_or heads cell None

-- the node of a slot that is first in its cell, and the nodes with it
abbrev pub first_node : List (Option ℕ) → ℕ → Node → Node
first_node heads at node = record node { cell = Some at; next = head_at heads at; previous = None }

abbrev pub with_put : List (Option ℕ) → List Node → ℕ → ℕ → List Node
with_put heads nodes at slot =
    let noted : List Node = with_previous nodes (head_at heads at) (Some slot) in
    slice_set noted slot (first_node heads at (node_at noted slot))

-- a slot's cell, and its neighbours there
abbrev pub cell_in : List Node → ℕ → Option ℕ
cell_in nodes slot = (node_at nodes slot).cell

abbrev pub next_in : List Node → ℕ → Option ℕ
next_in nodes slot = (node_at nodes slot).next

abbrev pub previous_in : List Node → ℕ → Option ℕ
previous_in nodes slot = (node_at nodes slot).previous

-- at each slot its cell, and its expiry
abbrev pub cells_of : List Node → List (Option ℕ)
cells_of nodes = map (λ (node : Node). node.cell) nodes

abbrev pub expiries_of : List Node → List (Option ℕ)
expiries_of nodes = map expiry_of nodes

-- what callers see of them
abbrev pub slots_of : List Node → Slots
slots_of nodes = record { expiries = expiries_of nodes; cells = cells_of nodes }

-- neighbours agree, each list begins at its cell's head, and ranks rise along it, so it ends
pub record LinksAgree (head cell next previous : ℕ → Option ℕ) (rank : ℕ → ℕ) : Type 0 where
  pub head_cell : (at slot : ℕ) → head at ≡ Some slot → cell slot ≡ Some at
  pub head_first : (at slot : ℕ) → head at ≡ Some slot → previous slot ≡ None
  pub first_head : (at slot : ℕ) → cell slot ≡ Some at → previous slot ≡ None → head at ≡ Some slot
  pub next_previous : (slot other : ℕ) → next slot ≡ Some other → previous other ≡ Some slot
  pub previous_next : (slot other : ℕ) → previous other ≡ Some slot → next slot ≡ Some other
  pub next_cell : (slot other : ℕ) → next slot ≡ Some other → cell other ≡ cell slot
  pub next_rank : (slot other : ℕ) → next slot ≡ Some other → rank slot < rank other
  pub free_next : (slot : ℕ) → cell slot ≡ None → next slot ≡ None
  pub free_previous : (slot : ℕ) → cell slot ≡ None → previous slot ≡ None

-- the lists are linked
abbrev pub AreLinked : List (Option ℕ) → List Node → (ℕ → ℕ) → Type 0
AreLinked heads nodes rank = LinksAgree (head_at heads) (cell_in nodes) (next_in nodes) (previous_in nodes) rank

-- the lists are linked, and there are heads for all cells once there is room for a slot
pub record AreSoundLists (heads : List (Option ℕ)) (nodes : List Node) : Type 0 where
  pub linked : (rank : ℕ → ℕ) × AreLinked heads nodes rank
  pub few_heads : length heads ≤ CELLS
  pub all_heads : 0 < length nodes → CELLS ≤ length heads
