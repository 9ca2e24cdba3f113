-- The desk keeps its name, the reference that it holds, from offer to offer.
use Rattle.std.proofs.Common.{◌≡◌}
use Rattle.rb_retry_tests.proofs.tests.allocations.offer_all.Given as goal

abbrev pub invariant-loop-expiry : goal.invariant-loop-expiry
invariant-loop-expiry g l = g.D.Desk.name (g.D.Desk.state l.desk) ≡ g.D.Desk.name (g.D.Desk.state l.fn.desk)
