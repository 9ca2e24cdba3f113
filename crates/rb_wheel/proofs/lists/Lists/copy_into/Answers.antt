-- The walk over the cell meets each of its slots once, and leaves what was copied before.
use Rattle.std.proofs.Common.{◌≡◌, ◌∙◌, Some, sym, ap, refl}
use Rattle.std.proofs.lemmas.List.{get_or_read}
use Rattle.rb_wheel.specs.declared.node.Node.{Node}
use Rattle.rb_wheel.specs.Lists.{slot_expiry}
use Rattle.rb_wheel.specs.Nodes.{vacant, expiry_of}
use Rattle.rb_wheel.specs.Wheel.{IsThere}
use Rattle.rb_wheel.specs.WheelLinks.{head_at}
use Rattle.rb_wheel.proofs.Entries.{there_still, copied_still}
use Rattle.rb_wheel.proofs.LeastOnWay.{way_begins, way_goes, way_ends, on_way_low, fewer_left}
use Rattle.rb_wheel.proofs.Viewed.{expiry_at-viewed}
use Rattle.rb_wheel.proofs.lists.Lists.copy_into.Goals as goal
use Rattle.rb_wheel.proofs.lists.Lists.copy_into.Goals.{After-index-node, After-add_unless_there}

pub loop-cursor-init : goal.loop-cursor-init
loop-cursor-init g c =
    let lists = c.self.inside in
    record {
      way = way_begins lists.heads.items lists.nodes.items c.args.self.now c.args.cell c.self.invariant c.self.view_is
          (IsThere c.args.self.now.expiries (g.E.Timer.content c.args.early.now)) c.head_of-cursor.result
          (c.head_of-cursor.ensures ∙ ap (λ hs. head_at hs c.args.cell) c.deref.ensures.value);
      copies = c.requires.copies;
      kept = λ slot there. there;
      room = refl;
    }

pub loop-cursor-smaller : goal.loop-cursor-smaller
loop-cursor-smaller g c =
    let lists = c.self.inside in
    let now = c.args.self.now in
    let low = on_way_low lists.heads.items lists.nodes.items now c.args.cell c.self.invariant c.self.view_is
    (IsThere now.expiries (g.E.Timer.content c.loop-cursor.early)) c.loop-cursor.cursor c.loop-cursor.invariant.way c.in-Some.slot c.in-Some.is in
    let node_is = get_or_read lists.nodes.items c.in-Some.slot c.index-node.result.now low c.index-node.ensures vacant in
    fewer_left lists.heads.items lists.nodes.items now c.args.cell
    c.self.invariant c.self.view_is c.loop-cursor.cursor c.as_option-cursor.result c.in-Some.slot
    low c.in-Some.is (c.as_option-cursor.ensures ∙ ap (λ (n : Node). n.next) node_is)

pub loop-cursor-preserved : goal.loop-cursor-preserved
loop-cursor-preserved g c =
    let lists = c.self.inside in
    let now = c.args.self.now in
    let slot = c.in-Some.slot in
    let was = g.E.Timer.content c.loop-cursor.early in
    let is = g.E.Timer.content c.add_unless_there.new.early in
    let inv = c.loop-cursor.invariant in
    let low = on_way_low lists.heads.items lists.nodes.items now c.args.cell c.self.invariant c.self.view_is
    (IsThere now.expiries was) c.loop-cursor.cursor inv.way slot c.in-Some.is in
    let node_is = get_or_read lists.nodes.items slot c.index-node.result.now low c.index-node.ensures vacant in
    let expires : slot_expiry now.expiries slot ≡ Some c.unwrap.result =
    expiry_at-viewed lists.nodes.items now c.self.view_is slot ∙ sym (c.expiry.ensures ∙ ap expiry_of node_is) ∙ c.unwrap.ensures in
    let here : IsThere now.expiries is slot = c.add_unless_there.ensures.here ∙ sym expires in
    let still = there_still now.expiries was is slot here c.add_unless_there.ensures.others in
    record {
      way = way_goes lists.heads.items lists.nodes.items now c.args.cell c.self.invariant c.self.view_is
          (IsThere now.expiries was) c.loop-cursor.cursor inv.way slot c.in-Some.is
          (IsThere now.expiries is) c.as_option-cursor.result (c.as_option-cursor.ensures ∙ ap (λ (n : Node). n.next) node_is) here still;
      copies = copied_still now.expiries was is slot here c.add_unless_there.ensures.others inv.copies;
      kept = λ other there. still other (inv.kept other there);
      room = c.add_unless_there.ensures.room ∙ inv.room;
    }

pub returns-clause-all : goal.returns-clause-all
returns-clause-all g c =
    let lists = c.self.inside in
    let now = c.args.self.now in
    way_ends lists.heads.items lists.nodes.items now c.args.cell c.self.invariant c.self.view_is
    (IsThere now.expiries (g.E.Timer.content c.loop-cursor.early)) c.loop-cursor.cursor c.loop-cursor.invariant.way c.in_default.is
