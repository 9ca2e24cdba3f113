-- That what a script or a server wrote of its run is read again as that run, and is replayed with its audit.
use Rattle.std.specs.Prelude.{◌≡◌, ℕ, List, ◌++◌, Option, Some, None, Ok}
use Rattle.std.specs.Io.KnownBytes.{IsAtEnd}
use Rattle.rb_queue.specs.Counts.{audit_of}
use Rattle.rb_queue.specs.declared.opening.Opening.{Opening}
use Rattle.rb_kept.specs.Log.{Log}
use Rattle.rb_retry.specs.KeptSteps.{KeptState}
use Rattle.rb_retry.specs.declared.policy.Policy.{Policy}
use Rattle.rb_session.specs.declared.delivery.Delivery.{Delivery}
use Rattle.rb_session.specs.declared.ended.Ended.{Ended}
use Rattle.rb_history.specs.HistoryText.{history_text}
use Rattle.rb_replay.specs.WrittenHistories.{IsReadAgain}
use Rattle.rb_ending.specs.AuditText.{audit_text}
use Rattle.rb_ending.specs.Recording.{RecordsLog}
use Rattle.rb_runs.specs.Script.{EndsScript, RanSession, script_terms, device_of}
use Rattle.rb_runs.specs.TextVerdict.{IsVerdictOn, Tells}
use Rattle.rb_runs.specs.declared.text_verdict.TextVerdict.{TextVerdict}

-- Whatever is read of the text of the log's history is that history, and what `replay` says of it is its audit
-- line, with status 0.
pub record IsReplayed (log : Log) : Type 0 where
  pub again : IsReadAgain log.opening log.history
  pub told : (verdict : TextVerdict) (line : List ℕ) (status : ℕ) → IsVerdictOn None log.opening log.history verdict
      → Tells verdict line status → (line ≡ audit_text (audit_of log.opening log.history)) × (status ≡ 0)

-- a device that tells its bytes has got the text of the log's history behind what it had got
abbrev pub HoldsText : Log → Option (List ℕ) → Option (List ℕ) → Type 0
HoldsText log got got' =
    (before : List ℕ) → got ≡ Some before → got' ≡ Some (before ++ history_text log.opening log.history)

-- the law of each history that was written whole, be it a script's or a server's
abbrev pub RecordedIsRead : Type 0
RecordedIsRead =
    (log : Log) (got got' : Option (List ℕ)) → RecordsLog log (Ok tt) got got'
    → HoldsText log got got' × IsReplayed log

-- the law of each script that ended without a fault and had a device for its history
abbrev pub ScriptIsRead : {W H : Type 0} → (W → Option (List ℕ)) → (H → Option (List ℕ)) → Type 0
ScriptIsRead {H = H} sends contents =
    (got : Option (List ℕ)) (policy : Policy) (calls : ℕ) (delivery : Delivery) (rest : Option (List ℕ))
    (opening : Opening) (came sent : List ℕ) (ended : Ended) (device left : H)
    → EndsScript (script_terms sends got policy calls delivery opening) (IsAtEnd rest) came sent (Ok ended)
    (device_of contents (Some device) (Some left))
    → (to : KeptState)
    × RanSession (script_terms sends got policy calls delivery opening) (IsAtEnd rest)
    (record { came = came; sent = sent; ended = Ok ended }) to
    × HoldsText to.log (contents device) (contents left) × IsReplayed to.log
