-- A refused offer leaves the pass at its table too, so the next call that may grow can be made.
use Rattle.std.proofs.Common.{◌≡◌}
use Rattle.rb_blocking_tests.proofs.tests.memory_refusals.expect_growths.Given as goal

abbrev pub invariant-loop-id : goal.invariant-loop-id
invariant-loop-id g l = l.pass.table ≡ l.initial.pass.table
