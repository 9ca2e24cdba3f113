-- What a run wrote of its history is read again.
use Rattle.std.proofs.Common.{◌≡◌, ℕ, List, Option, Some, None, Result, Ok, Err, ap, subst, ◌∙◌}
use Rattle.std.specs.Io.KnownBytes.{Appends, IsAtEnd}
use Rattle.rb_queue.specs.Counts.{audit_of}
use Rattle.rb_kept.specs.Log.{Log}
use Rattle.rb_session.specs.declared.ended.Ended.{Ended}
use Rattle.rb_session.specs.declared.session_fault.SessionFault.{SessionFault}
use Rattle.rb_session.proofs.KnownDevices.{sent_last}
use Rattle.rb_history.specs.HistoryText.{history_text}
use Rattle.rb_replay.specs.WrittenHistories.{IsReadAgain}
use Rattle.rb_replay.proofs.ReadAgain.{written_is_read}
use Rattle.rb_replay.specs.declared.replay_fault.ReplayFault.TheVariants as check
use Rattle.rb_ending.specs.AuditText.{audit_text}
use Rattle.rb_ending.specs.Recording.{IsReadable, RecordsLog}
use Rattle.rb_runs.specs.Script.{IsRecording, RanSession, result_of, script_terms}
use Rattle.rb_runs.specs.TextVerdict.{IsVerdictOn, Tells}
use Rattle.rb_runs.specs.WrittenRuns.{IsReplayed, RecordedIsRead, ScriptIsRead}
use Rattle.rb_runs.specs.declared.recording.Recording.{Recording}
use Rattle.rb_runs.specs.declared.recording.Recording.TheVariants.{NotAsked, NotBegun, Written, Failed}
use Rattle.rb_runs.specs.declared.text_verdict.TextVerdict.{TextVerdict}
use Rattle.rb_runs.specs.declared.text_verdict.TextVerdict.TheVariants.{Unreadable, Refused, Unchained, Accepted}

-- the verdict on a run that is read again is its audit
told : (log : Log) → IsReadAgain log.opening log.history → (verdict : TextVerdict) (line : List ℕ) (status : ℕ)
    → IsVerdictOn None log.opening log.history verdict → Tells verdict line status
    → (line ≡ audit_text (audit_of log.opening log.history)) × (status ≡ 0)
told log again (Unreadable number reason) line status on tells = absurd on
told log again (Refused index reason) line status on tells = absurd (again.checked (Err (check.At index reason)) on)
told log again (Unchained index reason) line status on tells = absurd on.1
told log again (Accepted audit) line status on tells =
    (tells.line_is ∙ ap audit_text (again.checked (Ok audit) on.0), tells.status_is)

is_replayed : (log : Log) → IsReadable log → IsReplayed log
is_replayed log readable =
    let again = written_is_read log.opening log.history readable.opening readable.events readable.legal readable.few in
    record { again = again; told = told log again }

pub recorded_is_read : RecordedIsRead
recorded_is_read log got got' records = (
  λ before known. sent_last before (history_text log.opening log.history) got' (subst (λ had. Appends had got' (history_text log.opening log.history)) known records.writes),
  is_replayed log records.readable,
)

-- a run whose result is no fault wrote its history, if there is a device
wrote_whole : {H : Type 0} (contents : H → Option (List ℕ)) (log : Log) (session : Result Ended SessionFault) (recording : Recording) (ended : Ended) (device left : H)
    → Ok ended ≡ result_of session recording → IsRecording contents log session recording (Some device) (Some left)
    → (session ≡ Ok ended) × RecordsLog log (Ok tt) (contents device) (contents left)
wrote_whole contents log (Err fault) recording ended device left is recorded = absurd (cc)
wrote_whole contents log (Ok other) NotAsked ended device left is recorded = absurd (cc)
wrote_whole contents log (Ok other) NotBegun ended device left is recorded = absurd (cc)
wrote_whole contents log (Ok other) Written ended device left is recorded = (cc, recorded.2.records)
wrote_whole contents log (Ok other) (Failed fault) ended device left is recorded = absurd (cc)

pub script_is_read : {W H : Type 0} (sends : W → Option (List ℕ)) (contents : H → Option (List ℕ))
    → ScriptIsRead sends contents
script_is_read sends contents got policy calls delivery rest opening came sent ended device left (report, ran, answered) =
    let whole = wrote_whole contents ran.to.log report.session report.recording ended device left answered ran.recorded in
    let read = recorded_is_read ran.to.log (contents device) (contents left) whole.1 in (
      ran.to,
      subst (λ session. RanSession (script_terms sends got policy calls delivery opening) (IsAtEnd rest)
          (record { came = came; sent = sent; ended = session }) ran.to) whole.0 ran.session,
      read.0,
      read.1,
    )
