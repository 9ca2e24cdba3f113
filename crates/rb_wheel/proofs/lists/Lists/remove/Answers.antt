-- The slot's neighbours are joined before its own node goes.
use Rattle.std.proofs.Common.{◌≡◌, ◌<◌, ℕ, ◌++◌, List, length, set, take, drop, Option, None, IfSome, sym, ap, ◌∙◌, subst, arith}
use Rattle.rb_wheel.specs.declared.node.Node.{Node}
use Rattle.rb_wheel.specs.Nodes.{node_at, with_next, with_previous, with_first}
use Rattle.rb_wheel.specs.WheelLinks.{cells_of, expiries_of, AreSoundLists}
use Rattle.rb_wheel.proofs.Removals.{has_head, next_low, previous_low, left_linked, cells_left, expiries_left, taken_out, length-nodes_left, length-with_first}
use Rattle.rb_wheel.proofs.Viewed.{in_room_viewed, slots_of-parts, sound_moved, written_back}
use Rattle.rb_wheel.proofs.WrittenLinks.{changed_there, length-with_previous, length-with_next}
use Rattle.rb_wheel.proofs.lists.Lists.remove.Goals as goal
use Rattle.rb_wheel.proofs.lists.Lists.remove.Goals.{After-set_previous, After-set_next, After-set_first}

-- what the nodes are once the next slot knows what precedes it, and the one before what follows
noted_is : (c : After-set_previous) → take c.self.inside.nodes.len (c.set_previous.new.nodes ++ drop (length c.set_previous.new.nodes) c.self.inside.nodes.items)
    ≡ with_previous c.self.inside.nodes.items c.index-node.result.now.next c.index-node.result.now.previous
noted_is c =
    let nodes = c.self.inside.nodes.items in
    let node = c.index-node.result.now in
    let noted : c.set_previous.new.nodes ≡ with_previous nodes node.next node.previous =
    c.set_previous.ensures ∙ ap (λ ls. with_previous ls node.next node.previous) c.deref_mut.ensures.value in
    let long : length c.set_previous.new.nodes ≡ length nodes = ap length noted ∙ length-with_previous nodes node.previous node.next in
    written_back c.self.inside.nodes.len c.set_previous.new.nodes nodes (omega arith) ∙ noted

joined_is : (c : After-set_next)
    → take c.self.inside.nodes.len (c.set_previous.new.nodes ++ drop (length c.set_previous.new.nodes) c.self.inside.nodes.items)
    ≡ with_previous c.self.inside.nodes.items c.index-node.result.now.next c.index-node.result.now.previous
    → take c.self.inside.nodes.len (c.set_next.new.nodes ++ drop (length c.set_next.new.nodes) (take c.self.inside.nodes.len (c.set_previous.new.nodes ++ drop (length c.set_previous.new.nodes) c.self.inside.nodes.items)))
    ≡ with_next (with_previous c.self.inside.nodes.items c.index-node.result.now.next c.index-node.result.now.previous) c.index-node.result.now.previous c.index-node.result.now.next
joined_is c noted =
    let nodes = c.self.inside.nodes.items in
    let node = c.index-node.result.now in
    let joined : c.set_next.new.nodes ≡ with_next (with_previous nodes node.next node.previous) node.previous node.next =
    c.set_next.ensures ∙ ap (λ ls. with_next ls node.previous node.next) (c.deref_mut-2.ensures.value ∙ noted) in
    let long : length c.set_next.new.nodes ≡ length nodes = ap length joined
    ∙ length-with_next (with_previous nodes node.next node.previous) node.next node.previous
    ∙ length-with_previous nodes node.previous node.next in
    written_back c.self.inside.nodes.len c.set_next.new.nodes _ (omega arith) ∙ joined

-- which leaves the room
still_low : (nodes : List Node) (node : Node) (slot : ℕ) → slot < length nodes
    → slot < length (with_next (with_previous nodes node.next node.previous) node.previous node.next)
still_low nodes node slot low =
    let noted = length-with_previous nodes node.previous node.next in
    let joined = length-with_next (with_previous nodes node.next node.previous) node.next node.previous in
    omega arith

heads_are : (c : After-set_first) → take c.self.inside.heads.len (c.set_first.new.heads ++ drop (length c.set_first.new.heads) c.self.inside.heads.items)
    ≡ with_first c.self.inside.heads.items c.unwrap-cell.result c.index-node.result.now.previous c.index-node.result.now.next
heads_are c =
    let heads = c.self.inside.heads.items in
    let node = c.index-node.result.now in
    let begun : c.set_first.new.heads ≡ with_first heads c.unwrap-cell.result node.previous node.next =
    c.set_first.ensures ∙ ap (λ hs. with_first hs c.unwrap-cell.result node.previous node.next) c.deref_mut-3.ensures.value in
    let long : length c.set_first.new.heads ≡ length heads = ap length begun ∙ length-with_first heads c.unwrap-cell.result node.previous node.next in
    written_back c.self.inside.heads.len c.set_first.new.heads heads (omega arith) ∙ begun

pub set_previous-requires : goal.set_previous-requires
set_previous-requires c =
    subst (λ (ls : List Node). IfSome c.index-node.result.now.next (λ s. s < length ls)) (sym c.deref_mut.ensures.value)
    (next_low c.self.inside.heads.items c.self.inside.nodes.items c.args.self.now c.args.slot c.unwrap-cell.result c.index-node.result.now
    c.self.invariant c.self.view_is c.requires c.index-node.ensures c.unwrap-cell.ensures)

pub set_next-requires : goal.set_next-requires
set_next-requires c =
    subst (λ (ls : List Node). IfSome c.index-node.result.now.previous (λ s. s < length ls)) (sym (c.deref_mut-2.ensures.value ∙ noted_is (goal.at.set_next-requires c).After-set_previous))
    (previous_low c.self.inside.heads.items c.self.inside.nodes.items c.args.self.now c.args.slot c.unwrap-cell.result c.index-node.result.now
    c.self.invariant c.self.view_is c.requires c.index-node.ensures c.unwrap-cell.ensures)

pub set_first-requires : goal.set_first-requires
set_first-requires c =
    subst (λ (hs : List (Option ℕ)). c.unwrap-cell.result < length hs) (sym c.deref_mut-3.ensures.value)
    (has_head c.self.inside.heads.items c.self.inside.nodes.items c.args.self.now c.args.slot c.unwrap-cell.result c.index-node.result.now
    c.self.invariant c.self.view_is c.requires c.index-node.ensures c.unwrap-cell.ensures)

pub invariant_of-self : goal.invariant_of-self
invariant_of-self c =
    let lists = c.self.inside in
    let sound = c.self.invariant in
    let nodes = c.self.inside.nodes.items in
    let heads = c.self.inside.heads.items in
    let node = c.index-node.result.now in
    let slot = c.args.slot in
    let at = c.unwrap-cell.result in
    let rank = sound.linked.0 in
    let low_joined = still_low nodes node slot (in_room_viewed nodes c.args.self.now c.self.view_is slot c.requires) in
    let nodes_now = changed_there taken_out _ (with_next (with_previous nodes node.next node.previous) node.previous node.next) slot c.index_mut.result.now c.take_out.new.self
    (joined_is (goal.at.invariant_of-self c).After-set_next (noted_is (goal.at.invariant_of-self c).After-set_previous)) low_joined c.index_mut.ensures.value c.take_out.ensures in
    let heads_now = heads_are (goal.at.invariant_of-self c).After-set_first in
    let linked = left_linked heads nodes c.args.self.now slot at node sound c.self.view_is c.requires c.index-node.ensures c.unwrap-cell.ensures in
    let long = length-nodes_left heads nodes c.args.self.now slot at node sound c.self.view_is c.requires c.index-node.ensures c.unwrap-cell.ensures in
    let heads_long = length-with_first heads at node.previous node.next in
    let few = sound.few_heads in
    let all = sound.all_heads in
    let joined : List Node = with_next (with_previous nodes node.next node.previous) node.previous node.next in
    let sound_now : AreSoundLists (with_first heads at node.previous node.next) (set joined slot (taken_out (node_at joined slot))) = record {
      linked = (rank, linked);
      few_heads = omega arith;
      all_heads = λ some. let enough = all (omega arith) in omega arith;
    } in
    sound_moved heads_now nodes_now sound_now

pub returns : goal.returns
returns c =
    let lists = c.self.inside in
    let nodes = lists.nodes.items in
    let now = c.args.self.now in
    let slot = c.args.slot in
    let node = c.index-node.result.now in
    let low_joined = still_low nodes node slot (in_room_viewed nodes c.args.self.now c.self.view_is slot c.requires) in
    let nodes_now = changed_there taken_out _ (with_next (with_previous nodes node.next node.previous) node.previous node.next) slot c.index_mut.result.now c.take_out.new.self
    (joined_is (goal.at.returns c).After-set_next (noted_is (goal.at.returns c).After-set_previous)) low_joined c.index_mut.ensures.value c.take_out.ensures in
    slots_of-parts _ now.expiries (set now.cells slot None)
    (ap expiries_of nodes_now
    ∙ expiries_left lists.heads.items nodes now slot c.unwrap-cell.result node
    c.self.invariant c.self.view_is c.requires c.index-node.ensures c.unwrap-cell.ensures)
    (ap cells_of nodes_now
    ∙ cells_left lists.heads.items nodes now slot c.unwrap-cell.result node
    c.self.invariant c.self.view_is c.requires c.index-node.ensures c.unwrap-cell.ensures)
