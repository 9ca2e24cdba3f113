-- What the nodes are after one neighbour was written, or one slot's node.
use Rattle.std.proofs.Common.{◌≡◌, ℕ, ◌<◌, ◌≢◌, List, length, Option, Some, None, sym, ap, ◌∙◌, refl, ⊎_elim, get_or-set_same, get_or-set_other, length-set, arith, set, get_or}
use Rattle.std.proofs.lemmas.Bool.{cases_lt}
use Rattle.std.proofs.lemmas.List.{get_or_past, get_or_read, map-set}
use Rattle.std.proofs.Math.Seq.{map-set_same}
use Rattle.std.proofs.lemmas.Option.{none-some, same_Some}
use Rattle.rb_wheel.specs.declared.node.Node.{Node}
use Rattle.rb_wheel.specs.Nodes.{vacant, node_at, expiry_of, with_next, with_previous}
use Rattle.rb_wheel.specs.WheelLinks.{head_at, first_node, with_put, cell_in, cells_of, expiries_of}
use Rattle.rb_wheel.proofs.Linked.{cases_some}

-- a slot that lies in a cell has a node
pub in_room : (nodes : List Node) (slot at : ℕ) → cell_in nodes slot ≡ Some at → slot < length nodes
in_room nodes slot at is = ⊎_elim (λ within. within)
    (λ past. absurd (none-some at (sym (ap (λ (l : Node). l.cell) (get_or_past nodes slot vacant past)) ∙ is)))
    (cases_lt slot (length nodes))

-- a node was changed where it was read
pub changed_there : (change : Node → Node) (nodes new_nodes : List Node) (slot : ℕ) (read new : Node) → nodes ≡ new_nodes → slot < length new_nodes
    → read ≡ get_or nodes slot read → new ≡ change read → set nodes slot new ≡ set new_nodes slot (change (node_at new_nodes slot))
changed_there change nodes new_nodes slot read new same low reads is =
    let within : slot < length nodes = let long = ap length same in omega arith in
    ap (λ ns. set ns slot new) same
    ∙ ap (set new_nodes slot) (is ∙ ap change (get_or_read nodes slot read within reads vacant ∙ ap (λ ns. node_at ns slot) same))

module _ (nodes : List Node) (previous : Option ℕ) where
  pub length-with_previous : (o : Option ℕ) → length (with_previous nodes o previous) ≡ length nodes
  length-with_previous None = refl
  length-with_previous (Some slot) = length-set nodes slot _

  pub with_previous_here : (o : Option ℕ) (slot : ℕ) → o ≡ Some slot → slot < length nodes
      → node_at (with_previous nodes o previous) slot ≡ record (node_at nodes slot) { previous = previous }
  with_previous_here None slot is within = absurd (none-some slot is)
  with_previous_here (Some other) slot is within =
      ap (λ s. node_at (with_previous nodes (Some s) previous) slot) (same_Some other slot is)
      ∙ get_or-set_same nodes slot _ vacant within

  pub with_previous_other : (o : Option ℕ) (slot : ℕ) → o ≢ Some slot
      → node_at (with_previous nodes o previous) slot ≡ node_at nodes slot
  with_previous_other None slot apart = refl
  with_previous_other (Some other) slot apart =
      get_or-set_other nodes other slot _ vacant (λ same. apart (ap Some (sym same)))

  -- what does not show what precedes is as before
  pub with_previous_shown : {X : Type 0} (shown : Node → X) → ((node : Node) (p : Option ℕ) → shown (record node { previous = p }) ≡ shown node)
      → (o : Option ℕ) (slot : ℕ) → shown (node_at (with_previous nodes o previous) slot) ≡ shown (node_at nodes slot)
  with_previous_shown shown same o slot = ⊎_elim
      (λ within. ⊎_elim
      (λ here. ap shown (with_previous_here o slot here within) ∙ same (node_at nodes slot) previous)
      (λ other. ap shown (with_previous_other o slot other))
      (cases_some o slot))
      (λ past. ap shown (get_or_past (with_previous nodes o previous) slot vacant (let long = length-with_previous o in omega arith)
      ∙ sym (get_or_past nodes slot vacant past)))
      (cases_lt slot (length nodes))

  pub cells_of-with_previous : (o : Option ℕ) → cells_of (with_previous nodes o previous) ≡ cells_of nodes
  cells_of-with_previous None = refl
  cells_of-with_previous (Some slot) =
      map-set_same (λ (node : Node). node.cell) nodes slot _ vacant refl

  pub expiries_of-with_previous : (o : Option ℕ) → expiries_of (with_previous nodes o previous) ≡ expiries_of nodes
  expiries_of-with_previous None = refl
  expiries_of-with_previous (Some slot) = map-set_same expiry_of nodes slot _ vacant refl

module _ (nodes : List Node) (next : Option ℕ) where
  pub length-with_next : (o : Option ℕ) → length (with_next nodes o next) ≡ length nodes
  length-with_next None = refl
  length-with_next (Some slot) = length-set nodes slot _

  pub with_next_here : (o : Option ℕ) (slot : ℕ) → o ≡ Some slot → slot < length nodes
      → node_at (with_next nodes o next) slot ≡ record (node_at nodes slot) { next = next }
  with_next_here None slot is within = absurd (none-some slot is)
  with_next_here (Some other) slot is within =
      ap (λ s. node_at (with_next nodes (Some s) next) slot) (same_Some other slot is)
      ∙ get_or-set_same nodes slot _ vacant within

  pub with_next_other : (o : Option ℕ) (slot : ℕ) → o ≢ Some slot
      → node_at (with_next nodes o next) slot ≡ node_at nodes slot
  with_next_other None slot apart = refl
  with_next_other (Some other) slot apart =
      get_or-set_other nodes other slot _ vacant (λ same. apart (ap Some (sym same)))

  pub cells_of-with_next : (o : Option ℕ) → cells_of (with_next nodes o next) ≡ cells_of nodes
  cells_of-with_next None = refl
  cells_of-with_next (Some slot) =
      map-set_same (λ (node : Node). node.cell) nodes slot _ vacant refl

  pub expiries_of-with_next : (o : Option ℕ) → expiries_of (with_next nodes o next) ≡ expiries_of nodes
  expiries_of-with_next None = refl
  expiries_of-with_next (Some slot) = map-set_same expiry_of nodes slot _ vacant refl

-- a slot is put first in a cell
module _ (heads : List (Option ℕ)) (nodes : List Node) (at slot : ℕ) where
  abbrev noted : List Node
  noted = with_previous nodes (head_at heads at) (Some slot)

  pub with_put_here : slot < length nodes → node_at (with_put heads nodes at slot) slot ≡ first_node heads at (node_at noted slot)
  with_put_here within = get_or-set_same noted slot _ vacant
      (let long = length-with_previous nodes (Some slot) (head_at heads at) in omega arith)

  pub with_put_other : (s : ℕ) → s ≢ slot → node_at (with_put heads nodes at slot) s ≡ node_at noted s
  with_put_other s apart = get_or-set_other noted slot s _ vacant apart

  pub cells_of-with_put : cells_of (with_put heads nodes at slot) ≡ set (cells_of nodes) slot (Some at)
  cells_of-with_put =
      map-set (λ (l : Node). l.cell) noted slot _
      ∙ ap (λ cells. set cells slot (Some at)) (cells_of-with_previous nodes (Some slot) (head_at heads at))

  pub expiries_of-with_put : expiries_of (with_put heads nodes at slot) ≡ expiries_of nodes
  expiries_of-with_put =
      map-set_same expiry_of noted slot _ vacant refl
      ∙ expiries_of-with_previous nodes (Some slot) (head_at heads at)

  pub length-with_put : length (with_put heads nodes at slot) ≡ length nodes
  length-with_put = length-set noted slot _ ∙ length-with_previous nodes (Some slot) (head_at heads at)
