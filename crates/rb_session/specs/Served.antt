-- What a session came to.
use Rattle.std.specs.Prelude.{ℕ, List, Result, Ok, Err}
use Rattle.rb_session.specs.declared.ended.Ended.{Ended}
use Rattle.rb_session.specs.declared.ended.Ended.TheVariants.{Quit, EndOfInput}
use Rattle.rb_session.specs.declared.session_fault.SessionFault.{SessionFault}
use Rattle.rb_session.specs.declared.session_fault.SessionFault.TheVariants.{Memory, Read, Write, ReadTurns}

-- A session that was served: which bytes came, which were sent, and how it ended.
pub record Served : Type 0 where
  pub came : List ℕ
  pub sent : List ℕ
  pub ended : Result Ended SessionFault

-- how many jobs a session lost at its end
abbrev pub lost_in : Result Ended SessionFault → ℕ
lost_in (Ok (Quit lost)) = lost
lost_in (Ok (EndOfInput lost)) = lost
lost_in (Err Memory) = 0
lost_in (Err (Read lost)) = lost
lost_in (Err (Write lost)) = lost
lost_in (Err (ReadTurns lost)) = lost
