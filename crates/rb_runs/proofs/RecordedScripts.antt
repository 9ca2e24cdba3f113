-- Scripts whose history goes to a recorder.
use Rattle.std.proofs.Common.{◌≡◌, ℕ, List, Option, Some, Bool, true, false, MatchBool, Result, refl, sym, subst}
use Rattle.std.specs.Io.KnownBytes.{IsAtEnd}
use Rattle.rb_kept.specs.Log.{Log}
use Rattle.rb_session.specs.Exchange.{Exchanges}
use Rattle.rb_session.specs.declared.ended.Ended.{Ended}
use Rattle.rb_session.specs.declared.session_fault.SessionFault.{SessionFault}
use Rattle.rb_runs.specs.RecordedScript.{IsRecordingIn, RanRecorded}
use Rattle.rb_runs.specs.Script.{IsRecording, LeadsTo, ScriptTerms}
use Rattle.rb_runs.specs.declared.recording.Recording.{Recording}
use Rattle.rb_runs.specs.declared.recording.Recording.TheVariants.{NotAsked}

module _ {B : Type 0} (keeps : B → Bool) (contents : B → Option (List ℕ)) where
  -- a recorder that keeps the history is the device for it
  pub kept : (log : Log) (session : Result Ended SessionFault) (recording : Recording) (old new : B) → keeps old ≡ true
      → IsRecording contents log session recording (Some old) (Some new)
      → IsRecordingIn keeps contents log session recording old new
  kept log session recording old new is recorded = subst (λ (b : Bool). MatchBool b
      (IsRecording contents log session recording (Some old) (Some new))
      ((recording ≡ NotAsked) × (new ≡ old))) (sym is) recorded

  -- one that does not is as it was
  pub unkept : (log : Log) (session : Result Ended SessionFault) (old new : B) → keeps old ≡ false → new ≡ old
      → IsRecordingIn keeps contents log session NotAsked old new
  unkept log session old new is same = subst (λ (b : Bool). MatchBool b
      (IsRecording contents log session NotAsked (Some old) (Some new))
      ((NotAsked ≡ NotAsked) × (new ≡ old))) (sym is) (refl, same)

  -- this became of the log that a session led to
  pub ran_recorded : (terms : ScriptTerms) (left left' got got' : Option (List ℕ)) (log : Log)
      (session : Result Ended SessionFault) (recording : Recording) (old new : B)
      → Exchanges left left' got got' (λ came sent.
      LeadsTo terms (IsAtEnd left') (record { came = came; sent = sent; ended = session }) log)
      → IsRecordingIn keeps contents log session recording old new
      → Exchanges left left' got got' (λ came sent. RanRecorded keeps contents terms (IsAtEnd left') came sent
      (record { session = session; recording = recording }) old new)
  ran_recorded terms left left' got got' log session recording old new ran recorded = record {
    came = ran.came;
    sent = ran.sent;
    consumed = ran.consumed;
    appended = ran.appended;
    holds = record {
      to = ran.holds.to;
      session = ran.holds.session;
      recorded = subst (λ log. IsRecordingIn keeps contents log session recording old new) ran.holds.log_is recorded;
    };
  }
