-- A line that could not be printed was sent to a writer that can't be written to.
use Rattle.std.proofs.Common.{◌≡◌, ◌∙◌, Result, Ok, Err, OnErr, rules, sym}
use Rattle.rb_protocol.specs.Writes.{CannotWrite, TellsOf}
use Rattle.rb_protocol.specs.declared.streams.writer_state.WriterState.{WriterState}
use Rattle.rb_protocol.specs.declared.streams.writer_status.WriterStatus.{WriterStatus}
use Rattle.rb_protocol.specs.declared.streams.writing.WriteFault.{WriteFault}
use Rattle.rb_ending.specs.WriteReasons.{FailsBetween}
use Rattle.rb_ending.proofs.Writers.{fails}
use Rattle.rb_runs.proofs.replay.print.Goals as goal

-- what a writer tells of a fault
of_told : {W : Type 0} (output last : W) (sent : Result (Unit {0}) WriteFault) (old : WriterState) (new : WriterStatus W)
    → TellsOf sent old new → (CannotWrite new → FailsBetween output last) → OnErr sent (FailsBetween output last)
of_told output last (Ok done) old new told then = tt
of_told output last (Err fault) old new told then = then told

pub returns-clause-failed : goal.returns-clause-failed
returns-clause-failed g c =
    let writer = c.new in
    let made = c.of-status in
    let sent = c.send_at_once in
    let on = sent.ensures.on in
    let name = sym (on.same_reference ∙ writer.ensures.same_reference) in
    let same : sent.new.writer.inner.now ≡ _ = sym (search (rules, name)) in
    of_told c.args.output.now _ sent.result _ _ sent.ensures.told
    (fails writer.result sent.new.writer made.result c.args.output.now on writer.ensures.status writer.ensures.same _ same
    made.ensures.first made.ensures.last)
