-- The elements so far came in, and none was offered.
use Rattle.std.proofs.Common.{take}
use Rattle.rb_replay.proofs.AttemptIndexes.{HasOpened}
use Rattle.rb_replay.proofs.attempt_index.AttemptIndex.new_from.Given as goal

abbrev pub invariant-loop-element : goal.invariant-loop-element
invariant-loop-element l = HasOpened (take l.element-index l.element-items) l.fn.opening.next_id l.attempts
