-- The slot's node comes first, and the one that was first knows it.
use Rattle.std.proofs.Common.{◌≡◌, ◌<◌, ℕ, ◌++◌, List, length, set, take, drop, Option, Some, IfSome, sym, ap, ◌∙◌, subst, arith, length-set}
use Rattle.rb_wheel.specs.declared.node.Node.{Node}
use Rattle.rb_wheel.specs.WheelLinks.{head_at, with_put, cells_of, expiries_of, AreSoundLists}
use Rattle.rb_wheel.proofs.Linked.{rank_below}
use Rattle.rb_wheel.proofs.Insertions.{AreLinked-insert}
use Rattle.rb_wheel.proofs.Viewed.{length-viewed, cell_at-viewed, cells_viewed, expiries_viewed, slots_of-parts, if_some, sound_moved, written_back}
use Rattle.rb_wheel.proofs.WrittenLinks.{in_room, cells_of-with_put, expiries_of-with_put, length-with_put}
use Rattle.rb_wheel.proofs.lists.Lists.insert.Goals as goal
use Rattle.rb_wheel.proofs.lists.Lists.insert.Goals.{After-put_first}

pub put_first-requires-clause-first_in_room : goal.put_first-requires-clause-first_in_room
put_first-requires-clause-first_in_room c =
    let lists = c.self.inside in
    let cell = c.args.cell in
    subst (λ (hs : List (Option ℕ)). IfSome (head_at hs cell) (λ first. first < length c.deref_mut-2.result.now)) (sym c.deref_mut.ensures.value)
    (if_some (head_at lists.heads.items cell) (λ first. first < length c.deref_mut-2.result.now)
    (λ first is. subst (λ (nodes : List Node). first < length nodes) (sym c.deref_mut-2.ensures.value)
    (in_room lists.nodes.items first cell (c.self.invariant.linked.1.head_cell cell first is))))

module _ (c : After-put_first) where
  in_nodes : c.args.slot < length c.self.inside.nodes.items
  in_nodes = let room = length-viewed c.self.inside.nodes.items c.args.self.now c.self.view_is in omega arith

  in_heads : c.args.cell < length c.self.inside.heads.items
  in_heads = let some = in_nodes in let all = c.self.invariant.all_heads (omega arith) in omega arith

  heads_are : take c.self.inside.heads.len (c.put_first.new.heads ++ drop (length c.put_first.new.heads) c.self.inside.heads.items)
      ≡ set c.self.inside.heads.items c.args.cell (Some c.args.slot)
  heads_are =
      let heads = c.self.inside.heads.items in
      let put : c.put_first.new.heads ≡ set heads c.args.cell (Some c.args.slot) =
      c.put_first.ensures.heads ∙ ap (λ hs. set hs c.args.cell (Some c.args.slot)) c.deref_mut.ensures.value in
      let long : length c.put_first.new.heads ≡ length heads = ap length put ∙ length-set heads c.args.cell (Some c.args.slot) in
      written_back c.self.inside.heads.len c.put_first.new.heads heads (omega arith) ∙ put

  nodes_are : take c.self.inside.nodes.len (c.put_first.new.nodes ++ drop (length c.put_first.new.nodes) c.self.inside.nodes.items)
      ≡ with_put c.self.inside.heads.items c.self.inside.nodes.items c.args.cell c.args.slot
  nodes_are =
      let heads = c.self.inside.heads.items in
      let nodes = c.self.inside.nodes.items in
      let put : c.put_first.new.nodes ≡ with_put heads nodes c.args.cell c.args.slot =
      c.put_first.ensures.nodes ∙ ap (λ hs. with_put hs c.deref_mut-2.result.now c.args.cell c.args.slot) c.deref_mut.ensures.value
      ∙ ap (λ ns. with_put heads ns c.args.cell c.args.slot) c.deref_mut-2.ensures.value in
      let long : length c.put_first.new.nodes ≡ length nodes = ap length put ∙ length-with_put heads nodes c.args.cell c.args.slot in
      written_back c.self.inside.nodes.len c.put_first.new.nodes nodes (omega arith) ∙ put

pub invariant_of-self : goal.invariant_of-self
invariant_of-self c =
    let at_put = (goal.at.invariant_of-self c).After-put_first in
    let heads = c.self.inside.heads.items in
    let nodes = c.self.inside.nodes.items in
    let slot = c.args.slot in
    let at = c.args.cell in
    let sound = c.self.invariant in
    let free = sym (cell_at-viewed nodes c.args.self.now c.self.view_is slot) ∙ c.requires.free in
    let long = length-with_put heads nodes at slot in
    let heads_long = length-set heads at (Some slot) in
    let few = sound.few_heads in
    let all = sound.all_heads in
    let sound_now : AreSoundLists (set heads at (Some slot)) (with_put heads nodes at slot) = record {
      linked = (rank_below slot sound.linked.0, AreLinked-insert heads nodes at slot sound.linked.0 sound.linked.1 (in_heads at_put) (in_nodes at_put) free);
      few_heads = omega arith;
      all_heads = λ some. let enough = all (omega arith) in omega arith;
    } in
    sound_moved (heads_are at_put) (nodes_are at_put) sound_now

pub returns : goal.returns
returns c =
    let now_at = (goal.at.returns c).After-put_first in
    let heads = c.self.inside.heads.items in
    let nodes = c.self.inside.nodes.items in
    let now = c.args.self.now in
    slots_of-parts _ now.expiries (set now.cells c.args.slot (Some c.args.cell))
    (ap expiries_of (nodes_are now_at) ∙ expiries_of-with_put heads nodes c.args.cell c.args.slot
    ∙ expiries_viewed nodes now c.self.view_is)
    (ap cells_of (nodes_are now_at) ∙ cells_of-with_put heads nodes c.args.cell c.args.slot
    ∙ ap (λ cells. set cells c.args.slot (Some c.args.cell)) (cells_viewed nodes now c.self.view_is))
