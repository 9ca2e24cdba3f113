-- Each entry stands in the early timer, or in a cell that is still to be searched.
use Rattle.std.proofs.Common.{◌≡◌}
use Rattle.rb_wheel.specs.Wheel.{Stand}
use Rattle.rb_wheel.specs.declared.cells.TheConstants.{CELLS}
use Rattle.rb_wheel.proofs.MarkedCells.{count_marked}
use Rattle.rb_wheel.proofs.next_first.next_first.Given as goal

abbrev pub invariant-loop-cell : goal.invariant-loop-cell
invariant-loop-cell g l = record {
  stand : Stand l.lists.expiries l.lists.cells (g.E.Timer.content l.early) l.waiting;
  room : g.E.Timer.room l.early ≡ g.E.Timer.room l.initial.early;
}

abbrev pub decreases-loop-cell : goal.decreases-loop-cell
decreases-loop-cell g l = count_marked l.waiting CELLS
