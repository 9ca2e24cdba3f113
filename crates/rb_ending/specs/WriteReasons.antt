-- Why something could not be written.
use Rattle.std.specs.Prelude.{◌≡◌}
use Rattle.rb_protocol.specs.Writes.{CannotWrite}
use Rattle.rb_protocol.specs.declared.streams.writer_status.WriterStatus.{WriterStatus}

-- From one to the other a write or a flush of the writer failed, or none was left.
pub record FailsBetween {W : Type 0} (old new : W) : Type 0 where
  pub status : WriterStatus W
  pub first : status.first.value ≡ old
  pub last : status.last.value ≡ new
  pub reason : CannotWrite status
