-- The heir gets the slot's place, or there is none.
use Rattle.std.proofs.Common.{arith}
use Rattle.rb_pairing.proofs.Children.{unlinks_none, unlinks_some}
use Rattle.rb_pairing.proofs.Expiries.{same_length}
use Rattle.rb_pairing.proofs.nodes.Nodes.unlink.Goals as goal

pub cut-requires-clause-in_room : goal.cut-requires-clause-in_room
cut-requires-clause-in_room c =
    omega (arith, c.requires.in_room, same_length c.args.self.now c.join_children.new.self c.in_default.ensures.relinks.expiries)

pub returns-in_default : goal.returns-in_default
returns-in_default c =
    unlinks_none c.args.self.now c.join_children.new.self c.cut.new.self c.args.slot c.in_default.ensures
    c.cut.ensures

pub returns : goal.returns
returns c =
    unlinks_some c.args.self.now c.join_children.new.self c.replace.new.self c.args.slot c.in-Some.heir
    c.in-Some.ensures c.replace.ensures
