-- Each slot of the cell has its copy, or is still to come.
use Rattle.std.proofs.Common.{◌≡◌, length}
use Rattle.rb_wheel.specs.Wheel.{IsThere, AreCopies, AreStillThere}
use Rattle.rb_wheel.specs.WheelLinks.{next_in}
use Rattle.rb_wheel.proofs.LeastOnWay.{IsOnWay}
use Rattle.rb_wheel.proofs.Members.{left}
use Rattle.rb_wheel.proofs.lists.Lists.copy_into.Given as goal

abbrev pub invariant-loop-cursor : goal.invariant-loop-cursor
invariant-loop-cursor g l = record {
  way : IsOnWay l.self.cells l.cell (next_in l.self-inside.nodes.items) l.cursor (IsThere l.self.expiries (g.E.Timer.content l.early));
  copies : AreCopies l.self.expiries (g.E.Timer.content l.early);
  kept : AreStillThere l.self.expiries (g.E.Timer.content l.initial.early) (g.E.Timer.content l.early);
  room : g.E.Timer.room l.early ≡ g.E.Timer.room l.initial.early;
}

abbrev pub decreases-loop-cursor : goal.decreases-loop-cursor
decreases-loop-cursor g l = left (next_in l.self-inside.nodes.items) (length l.self-inside.nodes.items) l.cursor
