-- Setting one bit marks its cell and changes no other cell's mark.
use Rattle.std.proofs.Common.{arith}
use Rattle.rb_wheel.proofs.MarkedCells.{mark-insert_same, mark-insert_other}
use Rattle.rb_wheel.proofs.marks.Marks.insert.Goals as goal

pub returns-clause-here : goal.returns-clause-here
returns-clause-here c = mark-insert_same c.args.self.now.words c.args.cell (omega arith)

pub returns-clause-elsewhere : goal.returns-clause-elsewhere
returns-clause-elsewhere c = mark-insert_other c.args.self.now.words c.args.cell (omega arith)
