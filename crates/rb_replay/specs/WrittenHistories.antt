-- The text that is written of a run is read again as that run.
use Rattle.std.specs.Prelude.{◌≡◌, ◌≤◌, List, length, Result, Ok, Err, IfOk}
use Rattle.rb_queue.specs.History.{IsLegal}
use Rattle.rb_queue.specs.Counts.{audit_of}
use Rattle.rb_queue.specs.declared.audit.Audit.{Audit}
use Rattle.rb_queue.specs.declared.event.Event.{Event}
use Rattle.rb_queue.specs.declared.opening.Opening.{Opening}
use Rattle.rb_kept.specs.declared.kept.TheConstants.{MOST_CALLS}
use Rattle.rb_replay.specs.Checking.{Checks}
use Rattle.rb_history.specs.HistoryText.{history_text}
use Rattle.rb_history.specs.Ranges.{IsRightHistory, IsRightOpening, AreRightEvents}
use Rattle.rb_history.specs.Readings.{Reads, IsReadAs}
use Rattle.rb_history.specs.declared.history.History.{History}
use Rattle.rb_replay.specs.declared.replay_fault.ReplayFault.{ReplayFault}
use Rattle.rb_replay.specs.declared.replay_fault.ReplayFault.TheVariants.{At, Memory}
use Rattle.rb_history.specs.declared.text_fault.TextFault.{TextFault}

-- this is the audit of the history, unless memory was refused
abbrev pub IsAudited : Opening → List Event → Result Audit ReplayFault → Type 0
IsAudited opening events (Ok audit) = audit ≡ audit_of opening events
IsAudited opening events (Err (At index reason)) = ⊥
IsAudited opening events (Err Memory) = Unit {0}

-- The text that is written of this run is read as this run, and the check returns its audit, unless memory is
-- refused.
pub record IsReadAgain (opening : Opening) (events : List Event) : Type 0 where
  pub read : (answer : Result History TextFault) → IfOk answer IsRightHistory
      → Reads (history_text opening events) answer → IsReadAs opening events answer
  pub checked : (answer : Result Audit ReplayFault) → Checks opening events answer → IsAudited opening events answer

-- the law that the text of each run that a kept queue may hold is read again
abbrev pub WrittenIsRead : Type 0
WrittenIsRead = (opening : Opening) (events : List Event) → IsRightOpening opening → AreRightEvents events
    → IsLegal opening events → length events ≤ MOST_CALLS → IsReadAgain opening events
