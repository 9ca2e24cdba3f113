-- What a reader is after a read.
use Rattle.std.specs.Prelude.{◌≡◌, ◌≢◌, ◌↔◌, ℕ, Result, Ok, IsErrAnd}
use Rattle.std.specs.IoError.{error_kind}
use Rattle.std.specs.declared.io.Error.{Error}
use Rattle.std.specs.declared.io.ErrorKind.TheVariants.{Interrupted}
use Rattle.rb_protocol.specs.declared.streams.reader_state.ReaderState.{ReaderState}
use Rattle.rb_protocol.specs.declared.streams.reader_state.ReaderState.TheVariants.{AtEnd, Failed}

-- The reader is at its end exactly if the read brought no byte, and has failed exactly if the read came to an error
-- that is no interruption.
pub record IsAfterRead (result : Result ℕ Error) (state : ReaderState) : Type 0 where
  pub at_end : state ≡ AtEnd ↔ result ≡ Ok 0
  pub failed : state ≡ Failed ↔ IsErrAnd result (λ error. error_kind error ≢ Interrupted)

-- no read failed, unless the last one before had
abbrev pub HasNotFailed : ReaderState → ReaderState → Type 0
HasNotFailed old new = new ≡ Failed → old ≡ Failed
