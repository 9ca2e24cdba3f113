-- The first waiting cell has the first entry, or is searched no longer.
use Rattle.rb_wheel.proofs.MarkedCells.{count-less}
use Rattle.rb_wheel.proofs.Moves.{first_is}
use Rattle.rb_wheel.specs.declared.cells.TheConstants.{CELLS}
use Rattle.rb_wheel.proofs.next_first.next_first.Goals as goal

pub returns-in-Some-least_or_copied-clause-first : goal.returns-in-Some-least_or_copied-clause-first
returns-in-Some-least_or_copied-clause-first g c =
    first_is c.args.base c.args.lists.now.expiries c.args.lists.now.cells c.requires.right c.loop-cell.waiting c.in-Some.cell c.in-Some.ensures.first
    c.in-Some-least_or_copied.entry.0 c.in-Some-least_or_copied.entry.1 c.in-Some-least_or_copied.ensures.least
    (g.E.Timer.content c.loop-cell.early) (g.E.Timer.content c.least_or_copied.new.early) c.loop-cell.invariant.stand c.least_or_copied.ensures.kept

pub loop-cell-smaller : goal.loop-cell-smaller
loop-cell-smaller g c =
    count-less c.loop-cell.waiting c.remove.new.self c.in-Some.cell c.in-Some.ensures.first.0 c.remove.ensures.here c.remove.ensures.elsewhere
    CELLS c.in-Some.ensures.in_wheel
