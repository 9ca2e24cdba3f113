-- An id below the first offer's, or behind the last one's, is no offer's.
use Rattle.std.proofs.Common.{arith}
use Rattle.rb_replay.proofs.AttemptIndexes.{not_before, not_behind}
use Rattle.rb_replay.proofs.attempt_index.AttemptIndex.place_of.Goals as goal

pub returns-then-id-self-clause-none : goal.returns-then-id-self-clause-none
returns-then-id-self-clause-none c = not_before c.args.self.now c.args.id (omega (arith, c.if-id-self.true))

pub returns-then-place-len-clause-none : goal.returns-then-place-len-clause-none
returns-then-place-len-clause-none c = not_behind c.args.self.now c.args.id (omega arith)
