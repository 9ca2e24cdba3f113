-- There are no slots.
use Rattle.rb_pairing.proofs.Rooms.{no_tree}
use Rattle.rb_pairing.proofs.pairing_timer.PairingTimerTimer.new.Goals as goal

pub invariant_of-result-clause-tree : goal.invariant_of-result-clause-tree
invariant_of-result-clause-tree c = rw c.new.ensures no_tree
