-- A text that could not be printed was sent to a writer that can't be written to.
use Rattle.std.proofs.Common.{◌≡◌, ◌∙◌, Result, Err, rules, refl, sym, subst}
use Rattle.rb_protocol.specs.Writes.{CannotWrite, TellsOf}
use Rattle.rb_protocol.specs.declared.streams.writer_state.WriterState.{WriterState}
use Rattle.rb_protocol.specs.declared.streams.writer_status.WriterStatus.{WriterStatus}
use Rattle.rb_protocol.specs.declared.streams.writing.WriteFault.{WriteFault}
use Rattle.rb_ending.proofs.Writers.{fails}
use Rattle.rb_serving.proofs.serve_text.print.Goals as goal

-- what a writer tells of a fault
of_fault : {W : Type 0} (sent : Result (Unit {0}) WriteFault) (fault : WriteFault) (old : WriterState) (new : WriterStatus W)
    → sent ≡ Err fault → TellsOf sent old new → CannotWrite new
of_fault sent fault old new is told = subst (λ (s : Result (Unit {0}) WriteFault). TellsOf s old new) is told

pub returns : goal.returns
returns g c =
    let writer = c.new-writer in
    let made = c.of-status in
    let sent = c.send_at_once in
    let on = sent.ensures.on in
    let name = sym (on.same_reference ∙ writer.ensures.same_reference) in
    let same : sent.new.writer.inner.now ≡ _ = sym (search (rules, name)) in
    let failed = fails writer.result sent.new.writer made.result c.args.writer.now on writer.ensures.status writer.ensures.same
    _ same made.ensures.first made.ensures.last
    (of_fault sent.result c.in-Err.field-0 _ _ c.in-Err.is sent.ensures.told) in (refl, failed, search (rules, name, c.in-Err.ensures))
