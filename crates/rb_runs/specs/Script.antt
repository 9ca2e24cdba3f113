-- What a run of a script is: one session at a desk over the queue of an opening, and then its history.
use Rattle.std.specs.Prelude.{◌≡◌, ◌≢◌, ℕ, List, [], Option, None, IsSome, Result, Ok, Err}
use Rattle.rb_ledger.specs.Totals.{nothing}
use Rattle.rb_queue.specs.declared.opening.Opening.{Opening}
use Rattle.rb_kept.specs.Log.{Log}
use Rattle.rb_retry.specs.KeptSteps.{KeptState}
use Rattle.rb_retry.specs.DeskRules.{kept_rules}
use Rattle.rb_retry.specs.declared.policy.Policy.{Policy}
use Rattle.rb_session.specs.Ran.{Ran}
use Rattle.rb_session.specs.Rules.{SessionRules, session_rules, HadGotBehind}
use Rattle.rb_session.specs.Served.{Served}
use Rattle.rb_session.specs.declared.delivery.Delivery.{Delivery}
use Rattle.rb_session.specs.declared.ended.Ended.{Ended}
use Rattle.rb_session.specs.declared.session_fault.SessionFault.{SessionFault}
use Rattle.rb_session.specs.declared.session_fault.SessionFault.TheVariants.{Memory}
use Rattle.rb_ending.specs.BrokerFault.{fault_of_session, fault_of_history}
use Rattle.rb_history.specs.declared.history_fault.HistoryFault.TheVariants.{Write}
use Rattle.rb_ending.specs.Recording.{RecordsRun}
use Rattle.rb_ending.specs.declared.broker_fault.BrokerFault.{BrokerFault}
use Rattle.rb_runs.specs.declared.recording.Recording.{Recording}
use Rattle.rb_runs.specs.declared.recording.Recording.TheVariants.{NotAsked, NotBegun, Written, Failed}
use Rattle.rb_runs.specs.declared.script_report.ScriptReport.{ScriptReport}

-- a log that begins with this opening, with no call yet and room for this many
pub record IsFresh (log : Log) (opening : Opening) (calls : ℕ) : Type 0 where
  pub opening_is : log.opening ≡ opening
  pub history : log.history ≡ []
  pub capacity : log.capacity ≡ calls

-- a desk over such a log, at the moment of the opening's last event, with no call counted
pub record IsNew (desk : KeptState) (opening : Opening) (calls : ℕ) : Type 0 where
  pub log : IsFresh desk.log opening calls
  pub share : desk.share ≡ nothing
  pub moment : desk.moment ≡ opening.last_at
  pub before : desk.before ≡ 0

-- The terms of a script: the rules of its session, for how many calls its history has room, and what its queue begins
-- with.
pub record ScriptTerms : Type 1 where
  pub rules : SessionRules KeptState
  pub calls : ℕ
  pub opening : Opening

-- those of a script whose writer tells its bytes so, and had got these at first
abbrev pub script_terms : {W : Type 0} → (W → Option (List ℕ)) → Option (List ℕ) → Policy → ℕ → Delivery → Opening
    → ScriptTerms
script_terms sends got policy calls delivery opening = record {
  rules = session_rules (kept_rules policy) delivery (HadGotBehind sends got);
  calls = calls;
  opening = opening;
}

-- The session went from a new desk to some other, and was served so.
pub record RanSession (terms : ScriptTerms) (Over : Type 0) (served : Served) (to : KeptState) : Type 0 where
  pub from : KeptState
  pub new : IsNew from terms.opening terms.calls
  pub ran : Ran terms.rules Over from served to

-- The session was served so, and led to this log.
pub record LeadsTo (terms : ScriptTerms) (Over : Type 0) (served : Served) (log : Log) : Type 0 where
  pub to : KeptState
  pub session : RanSession terms Over served to
  pub log_is : log ≡ to.log

-- The device for a history, if there is one: what it tells that it has got, as it was, and as it was left.
pub record HistoryDevice (H : Type 0) : Type 0 where
  pub contents : H → Option (List ℕ)
  pub before : Option H
  pub after : Option H

abbrev pub device_of : {H : Type 0} → (H → Option (List ℕ)) → Option H → Option H → HistoryDevice H
device_of contents before after = record { contents = contents; before = before; after = after }

-- What became of the history: there is no device for it; or the session found no memory and was not begun, and
-- the device is as it was; or the text was written to the device, whole or not. Writing it takes no memory.
abbrev pub IsRecording : {H : Type 0} → (H → Option (List ℕ)) → Log → Result Ended SessionFault → Recording
    → Option H → Option H → Type 0
IsRecording contents log session NotAsked device left = (device ≡ None) × (left ≡ None)
IsRecording contents log session NotBegun device left = IsSome device × (session ≡ Err Memory) × (left ≡ device)
IsRecording contents log session Written device left =
    IsSome device × (session ≢ Err Memory) × RecordsRun contents log (Ok tt) device left
IsRecording contents log session (Failed fault) device left =
    (session ≢ Err Memory) × (fault ≡ Write) × RecordsRun contents log (Err fault) device left

-- The session was such a one, and this became of the history of the log that it led to.
pub record RanScript {H : Type 0} (terms : ScriptTerms) (Over : Type 0) (came sent : List ℕ) (report : ScriptReport)
    (history : HistoryDevice H) : Type 0 where
  pub to : KeptState
  pub session : RanSession terms Over (record { came = came; sent = sent; ended = report.session }) to
  pub recorded :
      IsRecording history.contents to.log report.session report.recording history.before history.after

-- the session's fault is answered, if it has one, and otherwise that of writing the history
abbrev pub result_of : Result Ended SessionFault → Recording → Result Ended BrokerFault
result_of (Err fault) recording = Err (fault_of_session fault)
result_of (Ok ended) (Failed fault) = Err (fault_of_history fault)
result_of (Ok ended) _ = Ok ended

-- a script ran, and this is answered
abbrev pub EndsScript : {H : Type 0} → ScriptTerms → Type 0 → List ℕ → List ℕ → Result Ended BrokerFault
    → HistoryDevice H → Type 0
EndsScript terms Over came sent result history =
    (report : ScriptReport) × RanScript terms Over came sent report history
    × (result ≡ result_of report.session report.recording)
