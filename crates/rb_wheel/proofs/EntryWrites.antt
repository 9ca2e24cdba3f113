-- The slots after an entry was noted at one of them, or forgotten: each lies where it did.
use Rattle.std.proofs.Common.{◌≡◌, ℕ, ◌<◌, List, length, get_or, set, Option, sym, ap, ◌∙◌, subst, arith, ⊎_elim, get_or-set_same, get_or-set_other, length-set}
use Rattle.std.proofs.Math.Seq.{map-set_same}
use Rattle.std.proofs.lemmas.Bool.{cases_eq}
use Rattle.std.proofs.lemmas.List.{map-set, get_or_read}
use Rattle.rb_wheel.specs.declared.node.Node.{Node}
use Rattle.rb_wheel.specs.Lists.{Slots}
use Rattle.rb_wheel.specs.Nodes.{vacant, node_at, expiry_of}
use Rattle.rb_wheel.specs.WheelLinks.{head_at, cell_in, next_in, previous_in, expiries_of, slots_of, LinksAgree, AreSoundLists}
use Rattle.rb_wheel.proofs.Viewed.{cells_viewed, expiries_viewed, slots_of-parts}

module _ (nodes : List Node) (slot : ℕ) (read node : Node) (within : slot < length nodes) (reads : read ≡ get_or nodes slot read)
    (same_cell : node.cell ≡ read.cell) (same_next : node.next ≡ read.next) (same_previous : node.previous ≡ read.previous) where
  read_is : read ≡ node_at nodes slot
  read_is = get_or_read nodes slot read within reads vacant

  abbrev written : List Node
  written = set nodes slot node

  -- what the new node says as the old one did is said as before at each slot
  unchanged : (part : Node → Option ℕ) → part node ≡ part read → (other : ℕ) → part (node_at written other) ≡ part (node_at nodes other)
  unchanged part same other = ⊎_elim
      (λ here. ap (λ at. part (node_at written at)) here ∙ ap part (get_or-set_same nodes slot node vacant within)
      ∙ same ∙ ap part read_is ∙ ap (λ at. part (node_at nodes at)) (sym here))
      (λ apart. ap part (get_or-set_other nodes slot other node vacant apart))
      (cases_eq other slot)

  pub slots_written : (slots : Slots) → slots_of nodes ≡ slots → (expiry : Option ℕ) → expiry_of node ≡ expiry
      → slots_of written ≡ record { expiries = set slots.expiries slot expiry; cells = slots.cells }
  slots_written slots view expiry is =
      slots_of-parts written (set slots.expiries slot expiry) slots.cells
      (map-set expiry_of nodes slot node ∙ ap (set (expiries_of nodes) slot) is
      ∙ ap (λ expiries. set expiries slot expiry) (expiries_viewed nodes slots view))
      (map-set_same (λ (n : Node). n.cell) nodes slot node vacant (same_cell ∙ ap (λ (n : Node). n.cell) read_is)
      ∙ cells_viewed nodes slots view)

  pub sound_written : (heads : List (Option ℕ)) → AreSoundLists heads nodes → AreSoundLists heads written
  sound_written heads sound =
      let rank = sound.linked.0 in
      let cells : cell_in nodes ≡ cell_in written = λ i s. sym (unchanged (λ n. n.cell) same_cell s) i in
      let nexts : next_in nodes ≡ next_in written = λ i s. sym (unchanged (λ n. n.next) same_next s) i in
      let previouses : previous_in nodes ≡ previous_in written = λ i s. sym (unchanged (λ n. n.previous) same_previous s) i in
      let long = length-set nodes slot node in
      let all = sound.all_heads in
      record {
        linked = (
          rank,
          subst (λ (previous : ℕ → Option ℕ). LinksAgree (head_at heads) (cell_in written) (next_in written) previous rank) previouses
              (subst (λ (next : ℕ → Option ℕ). LinksAgree (head_at heads) (cell_in written) next (previous_in nodes) rank) nexts
              (subst (λ (cell : ℕ → Option ℕ). LinksAgree (head_at heads) cell (next_in nodes) (previous_in nodes) rank) cells sound.linked.1)),
        );
        few_heads = sound.few_heads;
        all_heads = λ some. all (omega arith);
      }
