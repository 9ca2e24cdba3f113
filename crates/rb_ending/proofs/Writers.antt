-- What becomes of a writer, over a status that was made of it.
use Rattle.std.proofs.Common.{◌≡◌, ◌∙◌, Result, sym, subst, ap}
use Rattle.std.specs.declared.snapshot.Snapshot.{Snapshot}
use Rattle.rb_protocol.specs.Writes.{CannotWrite, WritesOn}
use Rattle.rb_protocol.specs.declared.streams.limited_writer.LimitedWriter.{LimitedWriter}
use Rattle.rb_protocol.specs.declared.streams.writer_state.WriterState.{WriterState}
use Rattle.rb_protocol.specs.declared.streams.writer_state.WriterState.TheVariants.{Open}
use Rattle.rb_protocol.specs.declared.streams.writer_status.WriterStatus.{WriterStatus}
use Rattle.rb_session.specs.Reasons.{IsWriteReason}
use Rattle.rb_session.specs.declared.ended.Ended.{Ended}
use Rattle.rb_session.specs.declared.session_fault.SessionFault.{SessionFault}
use Rattle.rb_ending.specs.WriteReasons.{FailsBetween}

module _ {W : Type 0} (begun ended : LimitedWriter W) (made : WriterStatus W) (output : W) (on : WritesOn begun ended)
    (lends : begun.status.now ≡ made) (writes : begun.inner.now ≡ output) where
  pub first_is : made.first.value ≡ output → ended.status.now.first.value ≡ output
  first_is is = ap (λ (s : Snapshot W). s.value) on.first ∙ ap (λ (s : WriterStatus W). s.first.value) lends ∙ is

  pub last_is : made.last.value ≡ output → ended.status.now.last.value ≡ ended.inner.now
  last_is is = on.last (ap (λ (s : WriterStatus W). s.last.value) lends ∙ is ∙ sym writes)

  pub tells : (session : Result Ended SessionFault) → made.state ≡ Open
      → IsWriteReason begun.status.now.state ended.status.now session → IsWriteReason Open ended.status.now session
  tells session unfailed reason = subst (λ (state : WriterState). IsWriteReason state ended.status.now session)
      (ap (λ (s : WriterStatus W). s.state) lends ∙ unfailed) reason

  pub fails : (last : W) → ended.inner.now ≡ last → made.first.value ≡ output → made.last.value ≡ output
      → CannotWrite ended.status.now → FailsBetween output last
  fails last same first_made last_made reason = record {
    status = ended.status.now;
    first = first_is first_made;
    last = last_is last_made ∙ same;
    reason = reason;
  }
