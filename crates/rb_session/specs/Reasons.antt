-- Why a session ended, as its reader and its writer tell.
use Rattle.std.specs.Prelude.{◌≡◌, Result, Ok, Err}
use Rattle.rb_protocol.specs.Reads.{HasNotFailed}
use Rattle.rb_protocol.specs.Writes.{CannotWrite, FailsNoMore}
use Rattle.rb_protocol.specs.declared.streams.writer_status.WriterStatus.{WriterStatus}
use Rattle.rb_protocol.specs.declared.streams.limited_reader.LimitedReader.{LimitedReader}
use Rattle.rb_protocol.specs.declared.streams.reader_state.ReaderState.{ReaderState}
use Rattle.rb_protocol.specs.declared.streams.reader_state.ReaderState.TheVariants.{AtEnd, Failed}
use Rattle.rb_protocol.specs.declared.streams.writer_state.WriterState.{WriterState}
use Rattle.rb_session.specs.declared.ended.Ended.{Ended}
use Rattle.rb_session.specs.declared.ended.Ended.TheVariants.{Quit, EndOfInput}
use Rattle.rb_session.specs.declared.session_fault.SessionFault.{SessionFault}
use Rattle.rb_session.specs.declared.session_fault.SessionFault.TheVariants.{Memory, Read, Write, ReadTurns}

-- The input ended only if the reader is at its end, a read failed exactly if the session says so, reading was given up
-- only when no read was left, and a session that had no memory to begin has read nothing.
abbrev pub IsReason : {R : Type 0} → ReaderState → LimitedReader R → Result Ended SessionFault → Type 0
IsReason old new (Ok (Quit lost)) = HasNotFailed old new.state
IsReason old new (Ok (EndOfInput lost)) = new.state ≡ AtEnd
IsReason old new (Err (Read lost)) = new.state ≡ Failed
IsReason old new (Err (Write lost)) = HasNotFailed old new.state
IsReason old new (Err (ReadTurns lost)) = HasNotFailed old new.state × (new.left ≡ 0)
IsReason old new (Err Memory) = new.state ≡ old

-- A session says that it could not write only where its writer has failed, or has no write left. In one that ends
-- otherwise no write and no flush failed.
abbrev pub IsWriteReason : {W : Type 0} → WriterState → WriterStatus W → Result Ended SessionFault → Type 0
IsWriteReason old new (Err (Write lost)) = CannotWrite new
IsWriteReason old new ended = FailsNoMore old new
