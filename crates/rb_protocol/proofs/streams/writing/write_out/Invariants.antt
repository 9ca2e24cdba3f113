-- The writer has got just the first `taken` of the bytes, behind what it had, and no write of them has failed.
use Rattle.rb_protocol.specs.Writes.{FailsNoMore, WritesOn}
use Rattle.rb_protocol.proofs.WrittenBytes.{HasTaken}
use Rattle.rb_protocol.proofs.streams.writing.write_out.Given as goal

abbrev pub invariant-loop-taken : goal.invariant-loop-taken
invariant-loop-taken g l = record {
  got : HasTaken (g.W.Recipient.contents l.fn.writer.inner.now) (g.W.Recipient.contents l.writer.inner.now) l.bytes l.taken;
  well : FailsNoMore l.fn.writer.status.now.state l.writer.status.now;
  on : WritesOn l.fn.writer l.writer;
}

abbrev pub decreases-loop-taken : goal.decreases-loop-taken
decreases-loop-taken g l = l.writer.status.now.left
