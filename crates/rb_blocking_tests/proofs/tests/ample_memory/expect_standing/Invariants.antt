-- A refused offer leaves the pass at its table too, so the next element may be offered.
use Rattle.std.proofs.Common.{◌≡◌}
use Rattle.rb_blocking_tests.proofs.tests.ample_memory.expect_standing.Given as goal

abbrev pub invariant-loop-id : goal.invariant-loop-id
invariant-loop-id g l = l.pass.table ≡ l.initial.pass.table
