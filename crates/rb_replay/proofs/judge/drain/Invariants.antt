-- The ids so far were heads', and have left.
use Rattle.std.proofs.Common.{take}
use Rattle.rb_replay.proofs.Judgements.{Drained}
use Rattle.rb_replay.proofs.judge.drain.Given as goal

abbrev pub invariant-loop-id : goal.invariant-loop-id
invariant-loop-id l = Drained l.fn.queue l.queue l.now (take l.id-index l.ids)
