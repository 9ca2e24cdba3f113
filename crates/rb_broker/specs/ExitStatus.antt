-- The exit status that the program ends with.
use Rattle.std.specs.Prelude.{◌≡◌, ℕ, Result, Ok, Err, ◌⊎◌}
use Rattle.clap.specs.declared.error.kind.ErrorKind.{ErrorKind}
use Rattle.clap.specs.declared.error.kind.ErrorKind.TheVariants as kinds
use Rattle.rb_ending.specs.declared.broker_fault.BrokerFault.{BrokerFault}
use Rattle.rb_ending.specs.BrokerFault.{status_of}

-- 0 if the run came to its end, and otherwise the status of the fault
abbrev pub status_of_run : {X : Type 0} → Result X BrokerFault → ℕ
status_of_run (Ok ended) = 0
status_of_run (Err fault) = status_of fault

-- the status of the verdict, or that of the fault
abbrev pub status_of_replay : Result ℕ BrokerFault → ℕ
status_of_replay (Ok status) = status
status_of_replay (Err fault) = status_of fault

-- If the words were not accepted: 4 for refused memory, 2 for a mistake, and for help 0 or 3. That depends on
-- whether it could be printed, of which nothing is said here.
abbrev pub IsStatusOfWords : ErrorKind → ℕ → Type 0
IsStatusOfWords kinds.OutOfMemory status = status ≡ 4
IsStatusOfWords kinds.DisplayHelp status = (status ≡ 0) ⊎ (status ≡ 3)
IsStatusOfWords kinds.DisplayVersion status = (status ≡ 0) ⊎ (status ≡ 3)
IsStatusOfWords _ status = status ≡ 2
