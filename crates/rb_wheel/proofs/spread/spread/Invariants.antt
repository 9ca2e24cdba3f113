-- What is left of the list that was taken off is still to be put into lower cells.
use Rattle.std.proofs.Common.{◌≡◌, ◌<◌, length}
use Rattle.rb_wheel.specs.Wheel.{MaySpread, StillWait}
use Rattle.rb_wheel.specs.WheelLinks.{cells_of, expiries_of}
use Rattle.rb_wheel.proofs.Spreads.{count_in}
use Rattle.rb_wheel.proofs.TakenOff.{IsTakenOff}
use Rattle.rb_wheel.proofs.spread.spread.Given as goal

abbrev pub invariant-loop-rest : goal.invariant-loop-rest
invariant-loop-rest l = record {
  off : IsTakenOff l.cell l.rest l.heads l.nodes;
  low : l.cell < length l.heads;
  expiries : expiries_of l.nodes ≡ expiries_of l.initial.nodes;
  may : MaySpread l.base l.cell (expiries_of l.nodes) (cells_of l.nodes);
  room : length (cells_of l.nodes) ≡ length (cells_of l.initial.nodes);
  waits : StillWait l.initial.waiting (cells_of l.initial.nodes) l.waiting (cells_of l.nodes);
}

abbrev pub decreases-loop-rest : goal.decreases-loop-rest
decreases-loop-rest l = count_in l.cell (cells_of l.nodes)
