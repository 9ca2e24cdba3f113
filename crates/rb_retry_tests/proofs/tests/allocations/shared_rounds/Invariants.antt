-- The pass stays at the queue's table, so the calls of the next round may go through it.
use Rattle.std.proofs.Common.{◌≡◌}
use Rattle.rb_retry_tests.proofs.tests.allocations.shared_rounds.Given as goal

abbrev pub invariant-loop-round : goal.invariant-loop-round
invariant-loop-round g l = l.pass.table ≡ l.shared
