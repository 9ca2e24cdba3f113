-- The ids so far are kept.
use Rattle.std.proofs.Common.{take}
use Rattle.rb_replay.specs.AttemptIndex.{KeepsGiven}
use Rattle.rb_replay.proofs.attempt_index.AttemptIndex.keep_all_given.Given as goal

abbrev pub invariant-loop-id : goal.invariant-loop-id
invariant-loop-id l = KeepsGiven (take l.id-index l.ids) l.fn.self l.self
