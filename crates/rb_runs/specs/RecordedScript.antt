-- What a script is whose history goes to a recorder.
use Rattle.std.specs.Prelude.{◌≡◌, ◌≢◌, ℕ, List, Option, Some, Bool, Result, Err, MatchBool}
use Rattle.rb_kept.specs.Log.{Log}
use Rattle.rb_retry.specs.KeptSteps.{KeptState}
use Rattle.rb_protocol.specs.declared.streams.limited_reader.LimitedReader.{LimitedReader}
use Rattle.rb_protocol.specs.declared.streams.reader_state.ReaderState.TheVariants.{Open}
use Rattle.rb_protocol.specs.declared.streams.writer_state.WriterState.TheVariants as Writer
use Rattle.rb_protocol.specs.declared.streams.writer_status.WriterStatus.{WriterStatus}
use Rattle.rb_session.specs.Reasons.{IsReason, IsWriteReason}
use Rattle.rb_session.specs.declared.ended.Ended.{Ended}
use Rattle.rb_session.specs.declared.session_fault.SessionFault.{SessionFault}
use Rattle.rb_session.specs.declared.session_fault.SessionFault.TheVariants.{Memory}
use Rattle.rb_ending.specs.declared.broker_fault.BrokerFault.{BrokerFault}
use Rattle.rb_ending.specs.declared.broker_fault.BrokerFault.TheVariants as Broker
use Rattle.rb_runs.specs.Script.{IsRecording, RanSession, ScriptTerms, result_of}
use Rattle.rb_runs.specs.declared.recording.Recording.{Recording}
use Rattle.rb_runs.specs.declared.recording.Recording.TheVariants.{NotAsked}
use Rattle.rb_runs.specs.declared.script_report.ScriptReport.{ScriptReport}

-- the history was written to the recorder, if that keeps it; otherwise nothing was to be done
abbrev pub IsRecordingIn : {B : Type 0} → (B → Bool) → (B → Option (List ℕ)) → Log → Result Ended SessionFault → Recording
    → B → B → Type 0
IsRecordingIn keeps contents log session recording old new = MatchBool (keeps old)
    (IsRecording contents log session recording (Some old) (Some new))
    ((recording ≡ NotAsked) × (new ≡ old))

-- A session ran, and this became of the history of the log that it led to.
pub record RanRecorded {B : Type 0} (keeps : B → Bool) (contents : B → Option (List ℕ)) (terms : ScriptTerms) (Over : Type 0)
    (came sent : List ℕ) (report : ScriptReport) (old new : B) : Type 0 where
  pub to : KeptState
  pub session : RanSession terms Over (record { came = came; sent = sent; ended = report.session }) to
  pub recorded : IsRecordingIn keeps contents to.log report.session report.recording old new

-- A whole run: a session read the input and wrote to the output, behind a recorder that had begun. How the session ended
-- agrees with what its last read came to, and with whether a write or flush failed. `ended` is its fault, if it has one,
-- and otherwise that of recording.
pub record RecordsScript {R W B : Type 0} (has_begun : B → B → Type 0) (keeps : B → Bool) (contents : B → Option (List ℕ))
    (terms : ScriptTerms) (Over : Type 0) (came sent : List ℕ) (input' : R) (output output' : W) (old new : B)
    (ended : Result Ended BrokerFault) : Type 0 where
  pub between : B
  pub began : has_begun old between
  pub report : ScriptReport
  pub ran : RanRecorded keeps contents terms Over came sent report between new
  pub begun : report.session ≢ Err Memory
  pub reader : LimitedReader R
  pub read : reader.inner.now ≡ input'
  pub reason : IsReason Open reader report.session
  pub status : WriterStatus W
  pub written_first : status.first.value ≡ output
  pub written_last : status.last.value ≡ output'
  pub write_reason : IsWriteReason Writer.Open status report.session
  pub outcome : ended ≡ result_of report.session report.recording

-- what became of the recorder of a script that was not begun, for this fault: it has not begun either, or it could not
abbrev pub EndsUnbegun : {B : Type 0} → (B → B → Type 0) → B → B → BrokerFault → Type 0
EndsUnbegun has_failed old new Broker.Memory = new ≡ old
EndsUnbegun has_failed old new Broker.WriteHistory = has_failed old new
EndsUnbegun _ _ _ _ = ⊥

-- no script was run, for this reason: nothing was read and nothing written
pub record FailsScript {R W B : Type 0} (has_failed : B → B → Type 0) (input input' : R) (output output' : W) (old new : B)
    (ended : Result Ended BrokerFault) : Type 0 where
  pub fault : BrokerFault
  pub unread : input' ≡ input
  pub silent : output' ≡ output
  pub reason : EndsUnbegun has_failed old new fault
  pub outcome : ended ≡ Err fault
