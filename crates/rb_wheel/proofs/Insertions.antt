-- The lists after a free slot was put first in one.
use Rattle.std.proofs.Common.{◌≡◌, ℕ, ◌<◌, ◌≢◌, List, length, set, Option, Some, None, ap, ◌∙◌, refl, get_or-set_same, get_or-set_other}
use Rattle.rb_wheel.specs.declared.node.Node.{Node}
use Rattle.rb_wheel.specs.Nodes.{node_at, with_previous}
use Rattle.rb_wheel.specs.WheelLinks.{head_at, first_node, with_put, cell_in, next_in, previous_in, AreLinked}
use Rattle.rb_wheel.proofs.Linked.{PutsFirst, LinksAgree-put, rank_below}
use Rattle.rb_wheel.proofs.WrittenLinks.{in_room, with_previous_here, with_previous_other, with_previous_shown, with_put_here, with_put_other}

module _ (heads : List (Option ℕ)) (nodes : List Node) (at slot : ℕ) (rank : ℕ → ℕ)
    (linked : AreLinked heads nodes rank) (in_heads : at < length heads) (in_nodes : slot < length nodes)
    (free : cell_in nodes slot ≡ None) where
  here : node_at (with_put heads nodes at slot) slot ≡ first_node heads at (node_at (with_previous nodes (head_at heads at) (Some slot)) slot)
  here = with_put_here heads nodes at slot in_nodes

  second_in_room : (s : ℕ) → head_at heads at ≡ Some s → s < length nodes
  second_in_room s second = in_room nodes s at (linked.head_cell at s second)

  -- what does not show what precedes is as before at another slot
  stays : {X : Type 0} (shown : Node → X) → ((node : Node) (previous : Option ℕ) → shown (record node { previous = previous }) ≡ shown node)
      → (s : ℕ) → s ≢ slot → shown (node_at (with_put heads nodes at slot) s) ≡ shown (node_at nodes s)
  stays shown same s apart =
      ap shown (with_put_other heads nodes at slot s apart) ∙ with_previous_shown nodes (Some slot) shown same (head_at heads at) s

  puts : PutsFirst (head_at heads) (cell_in nodes) (next_in nodes) (previous_in nodes)
      (head_at (set heads at (Some slot))) (cell_in (with_put heads nodes at slot))
      (next_in (with_put heads nodes at slot)) (previous_in (with_put heads nodes at slot)) at slot
  puts = record {
    free = free;
    head_here = get_or-set_same heads at (Some slot) None in_heads;
    head_other = λ other apart. get_or-set_other heads at other (Some slot) None apart;
    cell_here = ap (λ (l : Node). l.cell) here;
    cell_other = stays (λ l. l.cell) (λ node previous. refl);
    next_here = ap (λ (l : Node). l.next) here;
    next_other = stays (λ l. l.next) (λ node previous. refl);
    previous_here = ap (λ (l : Node). l.previous) here;
    previous_second = λ s apart second. ap (λ (l : Node). l.previous) (with_put_other heads nodes at slot s apart)
        ∙ ap (λ (l : Node). l.previous) (with_previous_here nodes (Some slot) (head_at heads at) s second (second_in_room s second));
    previous_other = λ s apart other. ap (λ (l : Node). l.previous) (with_put_other heads nodes at slot s apart)
        ∙ ap (λ (l : Node). l.previous) (with_previous_other nodes (Some slot) (head_at heads at) s other);
  }

  pub AreLinked-insert : AreLinked (set heads at (Some slot)) (with_put heads nodes at slot) (rank_below slot rank)
  AreLinked-insert = LinksAgree-put _ _ _ _ _ _ _ _ at slot rank linked puts
