-- Each slot of the cell has been looked at, or is still to come.
use Rattle.std.proofs.Common.{length}
use Rattle.rb_wheel.specs.WheelLinks.{next_in}
use Rattle.rb_wheel.proofs.Members.{left}
use Rattle.rb_wheel.proofs.LeastOnWay.{IsLeastSoFar}
use Rattle.rb_wheel.proofs.lists.Lists.least_in.Given as goal

abbrev pub invariant-loop-cursor : goal.invariant-loop-cursor
invariant-loop-cursor l = IsLeastSoFar l.self.cells l.self.expiries l.cell (next_in l.self-inside.nodes.items) l.cursor l.least

abbrev pub decreases-loop-cursor : goal.decreases-loop-cursor
decreases-loop-cursor l = left (next_in l.self-inside.nodes.items) (length l.self-inside.nodes.items) l.cursor
