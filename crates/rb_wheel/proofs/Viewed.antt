-- What callers know of the slots, as the nodes have it.
use Rattle.std.proofs.Common.{◌≡◌, ℕ, ◌<◌, ◌++◌, List, length, take, drop, Option, Some, None, IsSome, IfSome, sym, ap, ◌∙◌, subst, refl, ⊎_elim}
use Rattle.std.proofs.lemmas.Bool.{cases_lt}
use Rattle.std.proofs.lemmas.List.{length-map, take_at, get_or_past}
use Rattle.std.proofs.Math.ListN.{get_or-map}
use Rattle.rb_wheel.specs.declared.node.Node.{Node}
use Rattle.rb_wheel.specs.Nodes.{vacant, node_at, expiry_of}
use Rattle.rb_wheel.specs.Lists.{Slots, cell_at, slot_expiry}
use Rattle.rb_wheel.specs.WheelLinks.{head_at, cell_in, cells_of, expiries_of, slots_of, AreSoundLists}
use Rattle.std.proofs.lemmas.Option.{none-some}

-- none is not some number
pub is_some-none : IsSome {T = ℕ} None → ⊥
is_some-none h = cc

module _ (nodes : List Node) (slots : Slots) (view : slots_of nodes ≡ slots) where
  pub cells_viewed : cells_of nodes ≡ slots.cells
  cells_viewed = ap (λ (s : Slots). s.cells) view

  pub expiries_viewed : expiries_of nodes ≡ slots.expiries
  expiries_viewed = ap (λ (s : Slots). s.expiries) view

  pub length-viewed : length slots.cells ≡ length nodes
  length-viewed = sym (ap length cells_viewed) ∙ length-map nodes (λ (node : Node). node.cell)

  pub length-expiries : length slots.expiries ≡ length nodes
  length-expiries = sym (ap length expiries_viewed) ∙ length-map nodes expiry_of

  pub cell_at-viewed : (slot : ℕ) → cell_at slots.cells slot ≡ cell_in nodes slot
  cell_at-viewed slot =
      ap (λ cs. cell_at cs slot) (sym cells_viewed) ∙ get_or-map (λ (node : Node). node.cell) nodes slot vacant

  pub expiry_at-viewed : (slot : ℕ) → slot_expiry slots.expiries slot ≡ expiry_of (node_at nodes slot)
  expiry_at-viewed slot = ap (λ es. slot_expiry es slot) (sym expiries_viewed) ∙ get_or-map expiry_of nodes slot vacant

  -- a slot that lies in a cell, or has an entry, has a node
  pub in_room_viewed : (slot : ℕ) → IsSome (cell_at slots.cells slot) → slot < length nodes
  in_room_viewed slot lies = ⊎_elim (λ within. within)
      (λ past. absurd (is_some-none (subst (λ o. IsSome o) (cell_at-viewed slot ∙ ap (λ (node : Node). node.cell) (get_or_past nodes slot vacant past)) lies)))
      (cases_lt slot (length nodes))

  pub in_room_expiry : (slot : ℕ) → IsSome (slot_expiry slots.expiries slot) → slot < length nodes
  in_room_expiry slot present = ⊎_elim (λ within. within)
      (λ past. absurd (is_some-none (subst (λ o. IsSome o) (expiry_at-viewed slot ∙ ap expiry_of (get_or_past nodes slot vacant past)) present)))
      (cases_lt slot (length nodes))

-- what callers see, from its parts
pub slots_of-parts : (nodes : List Node) (expiries cells : List (Option ℕ)) → expiries_of nodes ≡ expiries → cells_of nodes ≡ cells
    → slots_of nodes ≡ record { expiries = expiries; cells = cells }
slots_of-parts nodes expiries cells same_expiries same_cells =
    λ i. record { expiries = same_expiries i; cells = same_cells i }

-- a fact on the number in an option, where there is one
pub if_some : (o : Option ℕ) (P : ℕ → Type 0) → ((k : ℕ) → o ≡ Some k → P k) → IfSome o P
if_some None P each = tt
if_some (Some k) P each = each k refl

-- what a vector has after the whole of it was lent as a slice
pub written_back : {X : Type 0} (n : ℕ) (new old : List X) → length new ≡ n
    → take n (new ++ drop (length new) old) ≡ new
written_back n new old long = take_at new (drop (length new) old) n long

-- a cell with a first slot has a head
pub in_heads_of : (heads : List (Option ℕ)) (at slot : ℕ) → head_at heads at ≡ Some slot → at < length heads
in_heads_of heads at slot is = ⊎_elim (λ within. within)
    (λ past. absurd (none-some slot (sym (get_or_past heads at None past) ∙ is)))
    (cases_lt at (length heads))

-- lists that are equal to sound ones are sound
pub sound_moved : {heads new_heads : List (Option ℕ)} {nodes new_nodes : List Node}
    → new_heads ≡ heads → new_nodes ≡ nodes → AreSoundLists heads nodes → AreSoundLists new_heads new_nodes
sound_moved {heads} {new_heads} {nodes} {new_nodes} heads_are nodes_are sound =
    subst (λ hs. AreSoundLists hs new_nodes) (sym heads_are) (subst (λ ls. AreSoundLists heads ls) (sym nodes_are) sound)
