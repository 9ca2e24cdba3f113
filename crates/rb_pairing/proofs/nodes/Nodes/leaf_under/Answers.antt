-- What is under an entry is one.
use Rattle.std.proofs.Common.{sym, ◌∙◌}
use Rattle.rb_pairing.proofs.InRoom.{in_room-expiry}
use Rattle.rb_pairing.proofs.Linked.{child_present}
use Rattle.rb_pairing.proofs.nodes.Nodes.leaf_under.Goals as goal

pub child-requires : goal.child-requires
child-requires c = in_room-expiry _ _ c.down.invariant

pub down-preserved : goal.down-preserved
down-preserved c =
    child_present c.args.self.now c.requires.linked c.down.slot c.in-Some.child (sym c.child.ensures ∙ c.in-Some.is)
