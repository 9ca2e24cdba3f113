-- The nodes of the slots, and the nodes and heads after one was written.
use Rattle.std.specs.Prelude.{ℕ, false, cond, List, Option, Some, None, slice_index_or, slice_set}
use Rattle.rb_wheel.specs.declared.node.Node.{Node}

-- a slot with no entry, in no cell, and what a read past the end would give
abbrev pub vacant : Node
vacant = record { expiry = 0; next = None; previous = None; cell = None; is_taken = false }

abbrev pub node_at : List Node → ℕ → Node
node_at nodes slot = slice_index_or nodes slot vacant

-- the expiry of a slot's entry, if it has one
abbrev pub expiry_of : Node → Option ℕ
expiry_of node = cond node.is_taken (Some node.expiry) None

-- the slot, if there is one, is followed by `next`
abbrev pub with_next : List Node → Option ℕ → Option ℕ → List Node
with_next nodes None next = nodes
with_next nodes (Some slot) next = slice_set nodes slot (record (node_at nodes slot) { next = next })

-- the slot, if there is one, is preceded by `previous`
abbrev pub with_previous : List Node → Option ℕ → Option ℕ → List Node
with_previous nodes None previous = nodes
with_previous nodes (Some slot) previous = slice_set nodes slot (record (node_at nodes slot) { previous = previous })

-- the cell's list begins with `next`, if nothing precedes that
abbrev pub with_first : List (Option ℕ) → ℕ → Option ℕ → Option ℕ → List (Option ℕ)
with_first heads cell None next = slice_set heads cell next
with_first heads cell (Some previous) next = heads
