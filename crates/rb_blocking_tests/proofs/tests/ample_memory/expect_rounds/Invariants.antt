-- The pass stays at its table, so the offer and the take of the next round may go through it.
use Rattle.std.proofs.Common.{◌≡◌}
use Rattle.rb_blocking_tests.proofs.tests.ample_memory.expect_rounds.Given as goal

abbrev pub invariant-loop-id : goal.invariant-loop-id
invariant-loop-id g l = l.pass.table ≡ l.initial.pass.table
