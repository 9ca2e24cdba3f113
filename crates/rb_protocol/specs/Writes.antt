-- What a writer is after a write or a flush.
use Rattle.std.specs.Prelude.{◌≡◌, ◌≢◌, ◌↔◌, ◌⊎◌, ◌≤◌, ℕ, Result, Ok, Err, IsErr, IsErrAnd}
use Rattle.std.specs.IoError.{error_kind}
use Rattle.std.specs.declared.io.Error.{Error}
use Rattle.std.specs.declared.io.ErrorKind.TheVariants.{Interrupted}
use Rattle.rb_protocol.specs.declared.streams.limited_writer.LimitedWriter.{LimitedWriter}
use Rattle.rb_protocol.specs.declared.streams.writer_state.WriterState.{WriterState}
use Rattle.rb_protocol.specs.declared.streams.writer_status.WriterStatus.{WriterStatus}
use Rattle.rb_protocol.specs.declared.streams.writer_state.WriterState.TheVariants.{Failed}
use Rattle.rb_protocol.specs.declared.streams.writing.WriteFault.{WriteFault}

-- The writer has failed exactly if it had before, or the write took no byte, or came to an error that is no interruption.
abbrev pub IsAfterWrite : WriterState → Result ℕ Error → WriterState → Type 0
IsAfterWrite old result new =
    new ≡ Failed ↔ (old ≡ Failed ⊎ (result ≡ Ok 0 ⊎ IsErrAnd result (λ error. error_kind error ≢ Interrupted)))

-- it has failed exactly if it had before, or could not be flushed
abbrev pub IsAfterFlush : WriterState → Result (Unit {0}) WriteFault → WriterState → Type 0
IsAfterFlush old result new = new ≡ Failed ↔ (old ≡ Failed ⊎ IsErr result)

module _ {W : Type 0} where
  -- The writer has failed, or else has made all the writes that it may make.
  abbrev pub CannotWrite : WriterStatus W → Type 0
  CannotWrite status = status.state ≢ Failed → status.left ≡ 0

  -- Nothing failed from one to the other: a writer that has failed had before.
  abbrev pub FailsNoMore : WriterState → WriterStatus W → Type 0
  FailsNoMore old new = new.state ≡ Failed → old ≡ Failed

  -- What a writer tells of what gave this result: after a fault that it cannot write, and otherwise that nothing failed.
  abbrev pub TellsOf : {T E : Type 0} → Result T E → WriterState → WriterStatus W → Type 0
  TellsOf (Ok done) old new = FailsNoMore old new
  TellsOf (Err fault) old new = CannotWrite new

  -- What a writer may become: it writes and notes where it did, and may make no more writes than before. The status is
  -- still of what was written first, and if it was of the writer as that stood, it is so again.
  pub record WritesOn (old new : LimitedWriter W) : Type 0 where
    pub same_reference : new.inner.ghost_name ≡ old.inner.ghost_name
    pub same_status : new.status.ghost_name ≡ old.status.ghost_name
    pub counted : new.status.now.left ≤ old.status.now.left
    pub first : new.status.now.first ≡ old.status.now.first
    pub last : old.status.now.last.value ≡ old.inner.now → new.status.now.last.value ≡ new.inner.now
