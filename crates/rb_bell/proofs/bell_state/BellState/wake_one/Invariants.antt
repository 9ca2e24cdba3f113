-- No place that is tried changes the count.
use Rattle.std.proofs.Common.{◌≡◌}
use Rattle.rb_bell.proofs.bell_state.BellState.wake_one.Given as goal

abbrev pub invariant-loop-at : goal.invariant-loop-at
invariant-loop-at l = l.self.count ≡ l.initial.self.count
