-- The events so far are done again.
use Rattle.std.proofs.Common.{take}
use Rattle.rb_replay.specs.Replaying.{IsEndOf}
use Rattle.rb_replay.proofs.replay.replay.Given as goal

abbrev pub invariant-loop-index : goal.invariant-loop-index
invariant-loop-index l = IsEndOf l.fn.opening (take l.index l.events) l.end
