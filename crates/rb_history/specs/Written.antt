-- What a writer has got after a history was written, or was not.
use Rattle.std.specs.Prelude.{ℕ, List, take, Option, Result, Ok, Err}
use Rattle.std.specs.Io.KnownBytes.{Appends, Keeps}
use Rattle.rb_history.specs.declared.history_fault.HistoryFault.{HistoryFault}
use Rattle.rb_history.specs.declared.history_fault.HistoryFault.TheVariants.{Memory, Write}

-- The text was written whole; or nothing was, if memory was refused; or a first part of it. The writer had got
-- `got` before, and has got `got'` after.
abbrev pub Writes : {X : Type 0} → Result X HistoryFault → Option (List ℕ) → List ℕ → Option (List ℕ) → Type 0
Writes (Ok x) got text got' = Appends got got' text
Writes (Err Memory) got text got' = Keeps got got'
Writes (Err Write) got text got' = (taken : ℕ) × Appends got got' (take taken text)
