-- What is passed by is cut once its own place is emptied.
use Rattle.std.proofs.Common.{arith}
use Rattle.rb_pairing.proofs.Expiries.{same_length}
use Rattle.rb_pairing.proofs.Steps.{cuts}
use Rattle.rb_pairing.proofs.nodes.Nodes.cut.Goals as goal

pub set_place-requires-clause-slot : goal.set_place-requires-clause-slot
set_place-requires-clause-slot c =
    omega (arith, c.requires.in_room, same_length c.args.self.now c.bypass.new.self c.bypass.ensures.expiries)

pub returns : goal.returns
returns c =
    cuts c.args.self.now c.bypass.new.self c.set_place.new.self c.args.slot c.requires.linked c.bypass.ensures
    c.set_place.ensures
