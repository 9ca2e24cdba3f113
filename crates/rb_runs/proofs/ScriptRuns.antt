-- Sessions at new desks over an opening.
use Rattle.std.proofs.Common.{◌≡◌, ℕ, List, [], Option, Result, Err, refl, sym, subst, ap, length}
use Rattle.std.proofs.KnownBytes.{Appends-nil, Consumes-nil}
use Rattle.std.specs.Io.KnownBytes.{Consumes, IsAtEnd}
use Rattle.rb_ledger.specs.Totals.{nothing}
use Rattle.rb_ledger.specs.declared.totals.Totals.{Totals}
use Rattle.rb_queue.specs.declared.opening.Opening.{Opening}
use Rattle.rb_kept.specs.Log.{Log}
use Rattle.rb_retry.specs.KeptSteps.{KeptState}
use Rattle.rb_session.specs.Exchange.{Exchanges}
use Rattle.rb_session.specs.Ran.{Ran}
use Rattle.rb_session.specs.declared.ended.Ended.{Ended}
use Rattle.rb_session.specs.declared.session_fault.SessionFault.{SessionFault}
use Rattle.rb_session.specs.declared.session_fault.SessionFault.TheVariants.{Memory}
use Rattle.rb_ending.specs.declared.broker_fault.BrokerFault.{BrokerFault}
use Rattle.rb_runs.specs.Script.{EndsScript, HistoryDevice, IsNew, IsRecording, LeadsTo, RanScript, ScriptTerms, result_of}
use Rattle.rb_runs.specs.declared.recording.Recording.{Recording}
use Rattle.rb_runs.specs.declared.script_report.ScriptReport.{ScriptReport}

-- the desk over a log that nothing has happened to
desk_over : (name calls : ℕ) (opening : Opening) (log : Log) (share : Totals)
    → log.opening ≡ opening → log.history ≡ [] → log.capacity ≡ calls → share ≡ nothing
    → IsNew (record { name = name; log = log; share = share; moment = log.opening.last_at; before = length log.history }) opening calls
desk_over name calls opening log share begins empty room none = record {
  log = record { opening_is = begins; history = empty; capacity = room };
  share = none;
  moment = ap (λ (o : Opening). o.last_at) begins;
  before = ap length empty;
}

-- a desk that nothing has happened at
pub new_desk : Opening → ℕ → KeptState
new_desk opening calls = record {
  name = 0;
  log = record { opening = opening; history = []; capacity = calls };
  share = nothing;
  moment = opening.last_at;
  before = 0;
}

-- a session ran from a new desk over a log to some other, and this log is what it led to
pub leads_to : (terms : ScriptTerms) (left left' got got' : Option (List ℕ)) (name : ℕ) (log kept : Log) (share : Totals)
    (from to : KeptState) (session : Result Ended SessionFault)
    → from ≡ record { name = name; log = log; share = share; moment = log.opening.last_at; before = length log.history }
    → log.opening ≡ terms.opening → log.history ≡ [] → log.capacity ≡ terms.calls → share ≡ nothing
    → Exchanges left left' got got' (λ came sent.
    Ran terms.rules (IsAtEnd left') from (record { came = came; sent = sent; ended = session }) to)
    → kept ≡ to.log
    → Exchanges left left' got got' (λ came sent.
    LeadsTo terms (IsAtEnd left') (record { came = came; sent = sent; ended = session }) kept)
leads_to terms left left' got got' name log kept share from to session new begins empty room none ran is = record {
  came = ran.came;
  sent = ran.sent;
  consumed = ran.consumed;
  appended = ran.appended;
  holds = record {
    to = to;
    session = record {
      from = from;
      new = subst (λ desk. IsNew desk terms.opening terms.calls) (sym new)
          (desk_over name terms.calls terms.opening log share begins empty room none);
      ran = ran.holds;
    };
    log_is = is;
  };
}

module _ {H : Type 0} (terms : ScriptTerms) (history : HistoryDevice H) where
  -- a session that found no memory was not begun, and nothing came and was sent
  pub unbegun : (left got : Option (List ℕ)) (recording : Recording)
      → IsRecording history.contents (new_desk terms.opening terms.calls).log (Err Memory) recording history.before history.after
      → Exchanges left left got got (λ came sent.
      RanScript terms (IsAtEnd left) came sent (record { session = Err Memory; recording = recording }) history)
  unfolding new_desk
  unbegun left got recording recorded = record {
    came = [];
    sent = [];
    consumed = Consumes-nil left;
    appended = Appends-nil got;
    holds = record {
      to = new_desk terms.opening terms.calls;
      session = record {
        from = new_desk terms.opening terms.calls;
        new = desk_over 0 terms.calls terms.opening (new_desk terms.opening terms.calls).log nothing refl refl refl refl;
        ran = (refl, refl, refl);
      };
      recorded = recorded;
    };
  }

  -- this became of the log that a session led to
  pub ran_script : (left left' got got' : Option (List ℕ)) (log : Log) (session : Result Ended SessionFault)
      (recording : Recording)
      → Exchanges left left' got got' (λ came sent.
      LeadsTo terms (IsAtEnd left') (record { came = came; sent = sent; ended = session }) log)
      → IsRecording history.contents log session recording history.before history.after
      → Exchanges left left' got got' (λ came sent.
      RanScript terms (IsAtEnd left') came sent (record { session = session; recording = recording }) history)
  ran_script left left' got got' log session recording ran recorded = record {
    came = ran.came;
    sent = ran.sent;
    consumed = ran.consumed;
    appended = ran.appended;
    holds = record {
      to = ran.holds.to;
      session = ran.holds.session;
      recorded = subst (λ log. IsRecording history.contents log session recording history.before history.after)
          ran.holds.log_is recorded;
    };
  }

  -- a script ran over a reader that counts its reads, and this is answered
  pub ends_script : (first left left' got got' : Option (List ℕ)) (report : ScriptReport) (result : Result Ended BrokerFault)
      → left ≡ first → result ≡ result_of report.session report.recording
      → Exchanges left left' got got' (λ came sent. RanScript terms (IsAtEnd left') came sent report history)
      → Exchanges first left' got got' (λ came sent. EndsScript terms (IsAtEnd left') came sent result history)
  ends_script first left left' got got' report result same answered ran = record {
    came = ran.came;
    sent = ran.sent;
    consumed = subst (λ (old : Option (List ℕ)). Consumes old left' ran.came) same ran.consumed;
    appended = ran.appended;
    holds = (report, ran.holds, answered);
  }
