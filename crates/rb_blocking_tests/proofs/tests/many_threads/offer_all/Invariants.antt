-- The pass stays at its table, so the next ask may go through it.
use Rattle.std.proofs.Common.{◌≡◌}
use Rattle.rb_blocking_tests.proofs.tests.many_threads.offer_all.Given as goal

abbrev pub invariant-loop : goal.invariant-loop
invariant-loop g l = (l.pass.table ≡ l.initial.pass.table)
