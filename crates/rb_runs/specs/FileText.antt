-- What is read of a file.
use Rattle.std.specs.Prelude.{◌≡◌, ℕ, List, Option, Result, Ok, Err, Vec}
use Rattle.std.specs.Io.KnownBytes.{Consumes, IsAtEnd}
use Rattle.std.specs.declared.alloc.Global.{Global}
use Rattle.rb_protocol.specs.Reads.{HasNotFailed}
use Rattle.rb_protocol.specs.declared.streams.reader_state.ReaderState.{ReaderState}
use Rattle.rb_protocol.specs.declared.streams.reader_state.ReaderState.TheVariants.{AtEnd, Failed}
use Rattle.rb_ending.specs.declared.broker_fault.BrokerFault.{BrokerFault}
use Rattle.rb_ending.specs.declared.broker_fault.BrokerFault.TheVariants as Broker

-- the faults of reading a file
abbrev pub IsReadFault : BrokerFault → Type 0
IsReadFault Broker.ReadHistory = Unit {0}
IsReadFault Broker.ReadTurns = Unit {0}
IsReadFault Broker.Memory = Unit {0}
IsReadFault _ = ⊥

-- The text is all that came, and the reader is at its end; or what came is lost.
abbrev pub ReadsAll : Option (List ℕ) → Result (Vec ℕ Global) BrokerFault → Option (List ℕ) → Type 0
ReadsAll left (Ok text) left' = Consumes left left' text.items × IsAtEnd left'
ReadsAll left (Err fault) left' = IsReadFault fault × ((lost : List ℕ) × Consumes left left' lost)

-- The text is whole only if the reader is at its end, and a read failed exactly if the fault says so.
abbrev pub IsReadReason : ReaderState → ReaderState → Result (Vec ℕ Global) BrokerFault → Type 0
IsReadReason old new (Ok text) = new ≡ AtEnd
IsReadReason old new (Err Broker.ReadHistory) = new ≡ Failed
IsReadReason old new (Err fault) = HasNotFailed old new
