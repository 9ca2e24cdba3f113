-- The device got the text of the kept queue's opening and history, and these are what the kept queue keeps true.
use Rattle.std.proofs.Common.{◌≡◌, List, ℕ, Option, Result, OnOk, OnErr, subst, sym, ap, ◌∙◌, Ok, Err, arith, rules}
use Rattle.rb_queue.specs.declared.event.Event.{Event}
use Rattle.rb_queue.specs.declared.opening.Opening.{Opening}
use Rattle.rb_queue.specs.History.{IsLegal}
use Rattle.rb_kept.specs.Log.{Log}
use Rattle.rb_kept.specs.declared.kept.TheConstants.{MOST_CALLS}
use Rattle.rb_history.specs.HistoryText.{history_text}
use Rattle.rb_history.specs.Ranges.{IsRightOpening, AreRightEvents}
use Rattle.rb_history.specs.Written.{Writes}
use Rattle.rb_history.specs.declared.history_fault.HistoryFault.{HistoryFault}
use Rattle.rb_history.specs.declared.history_fault.HistoryFault.TheVariants.{Write}
use Rattle.rb_history.proofs.Writings.{writes_part}
use Rattle.rb_protocol.specs.Sending.{Sends}
use Rattle.rb_protocol.specs.declared.streams.writing.WriteFault.{WriteFault}
use Rattle.std.specs.Io.KnownBytes.{Appends}
use Rattle.rb_ending.proofs.Writers.{fails}
use Rattle.rb_ending.specs.Recording.{RecordsLog}
use Rattle.std.specs.Prelude.{◌≤◌, length, is_err}
use Rattle.rb_ending.proofs.recording.write_recording.Goals as goal

-- what holds in any case
on_ok : {P : Type 0} (wrote : Result (Unit {0}) HistoryFault) → P → OnOk wrote P
on_ok (Ok done) holds = holds
on_ok (Err fault) holds = tt

-- what was written of the same opening and the same events
recorded : (log : Log) (opening : Opening) (events : List Event) (wrote : Result (Unit {0}) HistoryFault) (got got' : Option (List ℕ)) → opening ≡ log.opening → events ≡ log.history
    → IsLegal log.opening log.history → length log.history ≤ MOST_CALLS
    → Writes wrote got (history_text opening events) got' → IsRightOpening opening → AreRightEvents events
    → RecordsLog log wrote got got'
recorded log opening events wrote got got' begun are legal few writes right rights = record {
  writes = subst (λ (o : Opening). Writes wrote got (history_text o log.history) got') begun (subst (λ (e : List Event). Writes wrote got (history_text opening e) got') are writes);
  readable = on_ok wrote (record { opening = subst IsRightOpening begun right; events = subst AreRightEvents are rights; legal = legal; few = few });
}

-- what holds of a fault
of_err : {P : Type 0} (wrote : Result (Unit {0}) WriteFault) (fault : WriteFault) → wrote ≡ Err fault → OnErr wrote P → P
of_err {P} wrote fault is holds = subst (λ (w : Result (Unit {0}) WriteFault). OnErr w P) is holds

-- what was sent whole
of_ok : (wrote : Result (Unit {0}) WriteFault) (text : List ℕ) (got got' : Option (List ℕ)) → wrote ≡ Ok tt
    → Sends wrote got text got' → Appends got got' text
of_ok wrote text got got' is sends = subst (λ (w : Result (Unit {0}) WriteFault). Sends w got text got') is sends

pub returns-in-Err-clause-records : goal.returns-in-Err-clause-records
returns-in-Err-clause-records g c =
    let written = c.write_history_in-written in
    let device = c.new-device in
    let made = c.of-status in
    let on = written.ensures.on in
    let got = g.H.Write.contents device.result.inner.now in
    let got' = g.H.Write.contents written.result.0.inner.now in
    let name = sym (on.same_reference ∙ device.ensures.same_reference) in
    let same : written.result.0.inner.now ≡ c.device-1.given.0 = sym (search (rules, name)) in record {
      records = rw (ap g.H.Write.contents device.ensures.same, ap g.H.Write.contents same) at
          (recorded c.args.kept.now c.opening.result.now c.history.result.now (Err Write) got got'
          c.opening.ensures c.history.ensures.events c.history.ensures.legal (omega (arith, c.capacity.ensures.few, c.capacity.ensures.most))
          (writes_part written.result.1 got (history_text c.opening.result.now c.history.result.now) got' (ap is_err c.in-Err.is) written.ensures.writes)
          written.ensures.opening written.ensures.events);
      reason = fails device.result written.result.0 made.result c.args.device.now on device.ensures.status device.ensures.same
          c.device-1.given.0 same made.ensures.first made.ensures.last
          (of_err written.result.1 c.in-Err.field-0 c.in-Err.is written.ensures.reason);
    }

pub returns-in-Ok-clause-records : goal.returns-in-Ok-clause-records
returns-in-Ok-clause-records g c =
    let written = c.write_history_in-written in
    let device = c.new-device in
    let on = written.ensures.on in
    let got = g.H.Write.contents device.result.inner.now in
    let got' = g.H.Write.contents written.result.0.inner.now in
    let name = sym (on.same_reference ∙ device.ensures.same_reference) in
    let same : written.result.0.inner.now ≡ c.device-1.given.0 = sym (search (rules, name)) in record {
      records = rw (ap g.H.Write.contents device.ensures.same, ap g.H.Write.contents same) at
          (recorded c.args.kept.now c.opening.result.now c.history.result.now (Ok tt) got got'
          c.opening.ensures c.history.ensures.events c.history.ensures.legal (omega (arith, c.capacity.ensures.few, c.capacity.ensures.most))
          (of_ok written.result.1 (history_text c.opening.result.now c.history.result.now) got got' c.in-Ok.is written.ensures.writes)
          written.ensures.opening written.ensures.events);
      reason = tt;
    }
