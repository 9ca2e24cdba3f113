-- A retry is in the set once it is inserted, and a first attempt needs no mark.
use Rattle.std.proofs.Common.{arith}
use Rattle.rb_replay.proofs.AttemptIndexes.{marked, first_unmarked}
use Rattle.rb_replay.proofs.attempt_index.mark_retry.Goals as goal

pub returns-in_ok-insert : goal.returns-in_ok-insert
returns-in_ok-insert c = marked c.args.attempt _ _ c.in_ok-insert.ensures.updates.0

pub returns-else-attempt-ge2 : goal.returns-else-attempt-ge2
returns-else-attempt-ge2 c = first_unmarked c.args.attempt _ (omega (arith, c.if-attempt-ge2.false))
