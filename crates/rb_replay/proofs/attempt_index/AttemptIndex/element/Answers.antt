-- An id with a place among the offers is that of the element offered there.
use Rattle.std.proofs.Common.{sym}
use Rattle.rb_replay.proofs.AttemptIndexes.{element_at}
use Rattle.rb_replay.proofs.attempt_index.AttemptIndex.element.Goals as goal

pub returns-in-Some : goal.returns-in-Some
returns-in-Some c = sym (element_at c.args.self.now c.args.id c.in-Some.place c.index.result.now c.in-Some.ensures.some c.index.ensures)
