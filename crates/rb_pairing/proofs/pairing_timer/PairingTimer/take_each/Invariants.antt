-- The room stays, and with each entry that leaves there is one less.
use Rattle.std.proofs.Common.{◌≡◌, length}
use Rattle.rb_pairing.proofs.pairing_timer.PairingTimer.take_each.Given as goal

abbrev pub invariant-loop-slot : goal.invariant-loop-slot
invariant-loop-slot l = length l.self.nodes ≡ length l.initial.self.nodes

abbrev pub decreases-loop-slot : goal.decreases-loop-slot
decreases-loop-slot l = l.self.len
