-- What the nodes of a pairing timer say of each slot: its entry's expiry, and the entry's links.
use Rattle.std.specs.Prelude.{ℕ, List, map, Option, None, slice_index_or, slice_set}
use Rattle.std.specs.Option.{unwrap_or}
use Rattle.rb_pairing.specs.declared.node.Node.{Node}

-- a slot with no entry, and what a read past the end would give
abbrev pub vacant : Node
vacant = record { expiry = None; child = None; next = None; previous = None }

-- what a slot holds
abbrev pub node_at : List Node → ℕ → Node
node_at nodes slot = slice_index_or nodes slot vacant

-- the expiry of its entry, if it has one
abbrev pub expiry_of : List Node → ℕ → Option ℕ
expiry_of nodes slot = (node_at nodes slot).expiry

-- the first of the row under it
abbrev pub child_of : List Node → ℕ → Option ℕ
child_of nodes slot = (node_at nodes slot).child

-- what comes after it in its row
abbrev pub next_of : List Node → ℕ → Option ℕ
next_of nodes slot = (node_at nodes slot).next

-- what comes before it in its row, or for the first of a row the parent
abbrev pub previous_of : List Node → ℕ → Option ℕ
previous_of nodes slot = (node_at nodes slot).previous

-- at each slot its expiry, or none
abbrev pub expiries : List Node → List (Option ℕ)
expiries nodes = map (λ (node : Node). node.expiry) nodes

-- the expiry as a number, to compare those of two entries
abbrev pub moment_of : List Node → ℕ → ℕ
moment_of nodes slot = unwrap_or (expiry_of nodes slot) 0

-- the nodes with that expiry, or none, at the slot
abbrev pub with_expiry : List Node → ℕ → Option ℕ → List Node
with_expiry nodes slot expiry = slice_set nodes slot (record (node_at nodes slot) { expiry = expiry })
