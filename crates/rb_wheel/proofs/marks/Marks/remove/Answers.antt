-- Clearing one bit takes the mark off its cell and changes no other cell's.
use Rattle.std.proofs.Common.{arith}
use Rattle.rb_wheel.proofs.MarkedCells.{mark-remove_same, mark-remove_other}
use Rattle.rb_wheel.proofs.marks.Marks.remove.Goals as goal

pub returns-clause-here : goal.returns-clause-here
returns-clause-here c = mark-remove_same c.args.self.now.words c.args.cell (omega arith)

pub returns-clause-elsewhere : goal.returns-clause-elsewhere
returns-clause-elsewhere c = mark-remove_other c.args.self.now.words c.args.cell (omega arith)
