-- The entry found is the least of the slots looked at.
use Rattle.rb_timer.proofs.Least.{IsLeastBelow}
use Rattle.rb_timer.proofs.list_timer.ListTimerTimer.least.Given as goal

abbrev pub invariant-loop-slot : goal.invariant-loop-slot
invariant-loop-slot l = IsLeastBelow l.self.expiries.items l.slot l.least
