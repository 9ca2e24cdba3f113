-- The walk over the cell meets each of its slots once, and keeps the least expiry that it has met.
use Rattle.std.proofs.Common.{◌≡◌, ◌∙◌, ◌<◌, length, sym, ap}
use Rattle.std.proofs.lemmas.List.{get_or_read}
use Rattle.rb_wheel.specs.declared.node.Node.{Node}
use Rattle.rb_wheel.specs.WheelLinks.{head_at}
use Rattle.rb_wheel.specs.Nodes.{vacant, node_at, expiry_of}
use Rattle.rb_wheel.proofs.LeastOnWay.{IsPassed, so_far_none, so_far_more, least_found, on_way_low, fewer_left}
use Rattle.rb_wheel.proofs.Viewed.{expiry_at-viewed}
use Rattle.rb_wheel.proofs.lists.Lists.least_in.Goals as goal
use Rattle.rb_wheel.proofs.lists.Lists.least_in.Goals.{After-index-node}

pub loop-cursor-init : goal.loop-cursor-init
loop-cursor-init c =
    let lists = c.self.inside in
    so_far_none lists.heads.items lists.nodes.items c.args.self.now c.args.cell
    c.self.invariant c.self.view_is c.head_of-cursor.result (c.head_of-cursor.ensures ∙ ap (λ hs. head_at hs c.args.cell) c.deref.ensures.value)

low : (c : After-index-node) → c.in-Some.slot < length c.self.inside.nodes.items
low c =
    let lists = c.self.inside in
    on_way_low lists.heads.items lists.nodes.items c.args.self.now c.args.cell c.self.invariant c.self.view_is
    (IsPassed c.args.self.now.expiries c.loop-cursor.least) c.loop-cursor.cursor c.loop-cursor.invariant.way c.in-Some.slot c.in-Some.is

node_is : (c : After-index-node) → c.index-node.result.now ≡ node_at c.self.inside.nodes.items c.in-Some.slot
node_is c = get_or_read c.self.inside.nodes.items c.in-Some.slot c.index-node.result.now (low c) c.index-node.ensures vacant

pub loop-cursor-preserved : goal.loop-cursor-preserved
loop-cursor-preserved c =
    let lists = c.self.inside in
    let now = c.args.self.now in
    let node_is = node_is (goal.at.loop-cursor-preserved c).After-index-node in
    so_far_more lists.heads.items lists.nodes.items now c.args.cell
    c.self.invariant c.self.view_is c.loop-cursor.cursor c.loop-cursor.least c.in-Some.slot c.unwrap-expiry.result c.earlier_of.result
    c.loop-cursor.invariant c.in-Some.is
    (expiry_at-viewed lists.nodes.items now c.self.view_is c.in-Some.slot ∙ sym (c.expiry.ensures ∙ ap expiry_of node_is) ∙ c.unwrap-expiry.ensures)
    c.earlier_of.ensures.no_later c.earlier_of.ensures.no_worse c.earlier_of.ensures.either
    c.as_option-cursor.result (c.as_option-cursor.ensures ∙ ap (λ (n : Node). n.next) node_is)

pub loop-cursor-smaller : goal.loop-cursor-smaller
loop-cursor-smaller c =
    let lists = c.self.inside in
    let at_node = (goal.at.loop-cursor-smaller c).After-index-node in
    fewer_left lists.heads.items lists.nodes.items c.args.self.now c.args.cell
    c.self.invariant c.self.view_is c.loop-cursor.cursor c.as_option-cursor.result c.in-Some.slot
    (low at_node) c.in-Some.is (c.as_option-cursor.ensures ∙ ap (λ (n : Node). n.next) (node_is at_node))

pub returns : goal.returns
returns c =
    let lists = c.self.inside in
    least_found lists.heads.items lists.nodes.items c.args.self.now c.args.cell
    c.self.invariant c.self.view_is c.loop-cursor.cursor c.loop-cursor.least c.in_default.is c.loop-cursor.invariant
