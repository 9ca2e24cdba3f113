-- The place with the fewest so far is one of them.
use Rattle.std.proofs.Common.{◌<◌}
use Rattle.rb_bell.specs.declared.bell_state.TheConstants.{PLACES}
use Rattle.rb_bell.proofs.bell_state.BellState.enter.Given as goal

abbrev pub invariant-loop-at : goal.invariant-loop-at
invariant-loop-at l = l.least < PLACES
