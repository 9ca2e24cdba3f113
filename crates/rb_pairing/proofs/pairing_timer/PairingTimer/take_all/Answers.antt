-- Vacant slots have no entry.
use Rattle.std.proofs.Common.{length, sym}
use Rattle.rb_pairing.proofs.Rooms.{vacant_tree, count-vacant, content-vacant}
use Rattle.rb_pairing.proofs.pairing_timer.PairingTimer.take_all.Goals as goal

pub invariant_of-self-clause-tree : goal.invariant_of-self-clause-tree
invariant_of-self-clause-tree c = rw c.clear.ensures (vacant_tree (length c.args.self.now.nodes))

pub invariant_of-self-clause-counted : goal.invariant_of-self-clause-counted
invariant_of-self-clause-counted c = rw c.clear.ensures (sym (count-vacant (length c.args.self.now.nodes)))

pub returns-clause-content : goal.returns-clause-content
returns-clause-content c = rw c.clear.ensures (content-vacant (length c.args.self.now.nodes))
