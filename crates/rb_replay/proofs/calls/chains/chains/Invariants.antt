-- The events so far are looked at: each is linked, and the index has them.
use Rattle.std.proofs.Common.{take}
use Rattle.rb_replay.proofs.ChainedHistories.{Looked}
use Rattle.rb_replay.proofs.calls.chains.chains.Given as goal

abbrev pub invariant-loop-index : goal.invariant-loop-index
invariant-loop-index l = Looked l.fn.policy l.fn.opening (take l.index l.events) l.attempts
