-- The first pass stays at its table while passes are split off and folded, so it may split again.
use Rattle.std.proofs.Common.{◌≡◌}
use Rattle.rb_blocking_tests.proofs.tests.ample_memory.expect_passes.Given as goal

abbrev pub invariant-loop-name : goal.invariant-loop-name
invariant-loop-name g l = l.first.table ≡ l.initial.first.table
