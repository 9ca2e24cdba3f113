-- Wherever the lines stopped, what was held then failed, and what the writer has got and what is held back are the
-- session's replies, one behind the other.
use Rattle.std.proofs.Common.{rules, ◌≡◌, ◌≤◌, ℕ, List, [], Option, Result, Ok, Err, sym, ap, subst, ◌∙◌, arith, length}
use Rattle.std.specs.Prelude.{OnOk}
use Rattle.rb_protocol.specs.declared.streams.limited_writer.LimitedWriter.{LimitedWriter}
use Rattle.rb_protocol.specs.declared.streams.writing.WriteFault.{WriteFault}
use Rattle.std.specs.Io.KnownBytes.{Appends, Consumes, IsAtEnd, append_known}
use Rattle.rb_delayed.specs.declared.element.Element.{Element}
use Rattle.rb_retry.specs.DeskRules.{DeskRules, desk_rules}
use Rattle.rb_session.specs.Closing.{Closes}
use Rattle.rb_session.specs.Exchange.{Exchanges}
use Rattle.rb_session.specs.Growth.{KeepsFront}
use Rattle.rb_session.specs.Outlet.{sent_to}
use Rattle.rb_session.specs.Ran.{RanUntil, DemandsOnlyAnswers}
use Rattle.rb_session.specs.Reasons.{IsReason}
use Rattle.rb_session.specs.Rules.{SessionRules, session_rules, HadGotBehind, most_held_back}
use Rattle.rb_session.specs.Turn.{Point, point}
use Rattle.rb_session.specs.Progress.{Stops, end_of}
use Rattle.rb_session.specs.declared.delivery.Delivery.{Delivery}
use Rattle.rb_session.specs.declared.ended.Ended.{Ended}
use Rattle.rb_session.specs.declared.session_fault.SessionFault.{SessionFault}
use Rattle.rb_session.specs.declared.ended.Ended.TheVariants as ends
use Rattle.rb_session.specs.declared.session_fault.SessionFault.TheVariants as faults
use Rattle.rb_session.specs.declared.stop.Stop.{Stop}
use Rattle.rb_session.specs.declared.stop.Stop.TheVariants as stops
use Rattle.rb_session.proofs.Gatherings.{known_at_first, all_sent, is_shared}
use Rattle.rb_session.proofs.Outlets.{reason_to_end}
use Rattle.rb_session.proofs.DeskParts.{stays}
use Rattle.rb_session.proofs.run.run_in.Given.{Over}
use Rattle.rb_session.proofs.run.run_in.Goals as goal
use Rattle.rb_session.proofs.run.run_in.Goals.{After-end_of}

module _ {S : Type 0} (rules : SessionRules S) (Over : Type 0) (from last to : S) (held : List Element)
    (lost : ℕ) (closes : Closes rules.desk last held lost to) (left left' old new : Option (List ℕ))
    (came passed before gathered : List ℕ) (read : Consumes left left' came) (empty : before ≡ [])
    (few : length gathered ≤ most_held_back rules.delivery) (grows : KeepsFront old new)
    (all : Appends (append_known old before) (append_known new gathered) passed) where
  -- where the lines stopped, what was held failed
  all_came : (ended : Result Ended SessionFault) → gathered ≡ []
      → RanUntil rules Over from (record { came = came; sent = passed; ended = ended }) ended to
      → Exchanges left left' old new
      (λ came sent. RanUntil rules Over from (record { came = came; sent = sent; ended = ended }) ended to)
  all_came ended clear ran = record {
    came = came;
    sent = passed;
    consumed = read;
    appended = all_sent old new before gathered passed empty clear all;
    holds = ran;
  }

  ran : (stopped : Result Stop WriteFault) → OnOk stopped (gathered ≡ [])
      → Stops rules Over (point from []) came passed stopped (point last held)
      → Exchanges left left' old new
      (λ came sent. RanUntil rules Over from (record { came = came; sent = sent; ended = end_of stopped lost })
      (end_of stopped lost) to)
  ran (Ok stops.Quit) clear stopped = all_came (Ok (ends.Quit lost)) clear (point last held, stopped, closes)
  ran (Ok stops.EndOfInput) clear stopped = all_came (Ok (ends.EndOfInput lost)) clear (point last held, stopped, closes)
  ran (Ok stops.Read) clear stopped = all_came (Err (faults.Read lost)) clear (point last held, stopped, closes)
  ran (Ok stops.ReadTurns) clear stopped = all_came (Err (faults.ReadTurns lost)) clear (point last held, stopped, closes)
  ran (Err fault) clear stopped =
      let shared = is_shared old new (most_held_back rules.delivery) before gathered passed empty few grows all in record {
        came = came;
        sent = shared.sent;
        consumed = read;
        appended = shared.got;
        holds = (
          point last held,
          record {
            passed = passed;
            fails = stopped;
            held_back = shared.rest;
            few = shared.few;
            parts = shared.parts;
          },
          closes,
        );
      }

-- an outlet that was just made has its caller's delivery, was sent what its writer had got, and nothing is held yet
stops_by : {S W : Type 0} (desk : DeskRules S) (contents : W → Option (List ℕ)) (Over : Type 0) (from : S)
    (to : Point S) (came sent : List ℕ) (stop : Result Stop WriteFault) (one other : Delivery) → one ≡ other
    → (got got' : Option (List ℕ)) → got ≡ got' → (held : List Element) → held ≡ []
    → Stops (session_rules desk one (HadGotBehind contents got)) Over (point from held) came sent stop to
    → Stops (session_rules desk other (HadGotBehind contents got')) Over (point from []) came sent stop to
stops_by desk contents Over from to came sent stop one other same got got' same_got held none stops =
    subst (λ (h : List Element). Stops (session_rules desk other (HadGotBehind contents got')) Over (point from h) came
    sent stop to) none
    (subst (λ (known : Option (List ℕ)). Stops (session_rules desk other (HadGotBehind contents known)) Over
    (point from held) came sent stop to) same_got
    (subst (λ (d : Delivery). Stops (session_rules desk d (HadGotBehind contents got)) Over (point from held) came sent
    stop to) same stops))

-- the session from the caller's reader to the caller's writer
whole : (g : Over) (c : After-end_of g)
    → Exchanges (g.R.Read.remaining c.args.reader.now.inner.now)
    (g.R.Read.remaining c.serve-stopped.new.reader.inner.now) (g.W.Recipient.contents c.args.writer.inner.now)
    (g.W.Recipient.contents c.serve-stopped.new.outlet.writer.inner.now) (λ came sent. RanUntil
    (session_rules (desk_rules g.D.Desk c.args.policy.now) c.args.room.now.delivery
    (HadGotBehind g.W.Recipient.contents (g.W.Recipient.contents c.args.writer.inner.now)))
    (IsAtEnd (g.R.Read.remaining c.serve-stopped.new.reader.inner.now)) (g.D.Desk.state c.args.desk.now)
    (record { came = came; sent = sent; ended = c.end_of.result }) c.end_of.result
    (g.D.Desk.state c.fail_all-lost.new.desk))
whole g c =
    let made = c.new-outlet.ensures in
    let stop = c.serve-stopped in
    let last = stop.new.outlet in
    let did = stop.ensures.stops in
    let old = g.W.Recipient.contents c.args.writer.inner.now in
    let new = g.W.Recipient.contents last.writer.inner.now in
    let over = IsAtEnd (g.R.Read.remaining stop.new.reader.inner.now) in
    let from = g.D.Desk.state c.args.desk.now in
    let desk = desk_rules g.D.Desk c.args.policy.now in
    let own_rules = session_rules desk c.args.room.now.delivery (HadGotBehind g.W.Recipient.contents old) in
    let fresh = ap (λ (writer : LimitedWriter g.row.W.Denot). g.W.Recipient.contents writer.inner.now) made.same in
    let got = known_at_first _ old c.new-outlet.result.gathered.items made.empty fresh in
    let grows = subst (λ (first : Option (List ℕ)). KeepsFront first new) fresh stop.ensures.becomes.grows in
    let sent = subst (λ (first : Option (List ℕ)).
    Appends (append_known first c.new-outlet.result.gathered.items) (append_known new last.gathered.items) did.sent)
    fresh did.appended in
    let few = subst (λ (delivery : Delivery). length last.gathered.items ≤ most_held_back delivery)
    (stop.ensures.becomes.delivery ∙ made.delivery) (omega (arith, last.few, last.gathered.ok.0)) in
    let stopped =
    stops_by desk g.W.Recipient.contents over from (point (g.D.Desk.state stop.new.desk) stop.new.self.held) did.came did.sent
    stop.result c.new-outlet.result.delivery c.args.room.now.delivery made.delivery _ old got _ c.args.room.now.unheld
    did.holds in
    let to = g.D.Desk.state c.fail_all-lost.new.desk in
    subst (λ (ended : Result Ended SessionFault). Exchanges (g.R.Read.remaining c.args.reader.now.inner.now)
    (g.R.Read.remaining stop.new.reader.inner.now) old new (λ came sent. RanUntil own_rules over
    from (record { came = came; sent = sent; ended = ended }) ended to)) (sym c.end_of.ensures)
    (ran own_rules over from (g.D.Desk.state stop.new.desk) to
    stop.new.self.held c.fail_all-lost.result c.fail_all-lost.ensures.closes _ _ old new did.came did.sent
    c.new-outlet.result.gathered.items last.gathered.items did.consumed made.empty few grows sent stop.result
    stop.ensures.clear stopped)

pub returns-clause-ran : goal.returns-clause-ran
returns-clause-ran g c =
    let on = (goal.at.returns-clause-ran g c).After-end_of in
    let ran = whole g on in
    search rules

-- no call changed what names the desk
pub returns-clause-name : goal.returns-clause-name
returns-clause-name g c =
    let ran = whole g (goal.at.returns-clause-name g c).After-end_of in
    stays (session_rules (desk_rules g.D.Desk c.args.policy.now) c.args.room.now.delivery
    (HadGotBehind g.W.Recipient.contents (g.W.Recipient.contents c.args.writer.inner.now)))
    g.D.Desk.name g.met.D.Desk.keeps_name g.met.D.Desk.sets_no_name g.met.D.Desk.misses_no_name
    (IsAtEnd (g.R.Read.remaining c.serve-stopped.new.reader.inner.now)) (g.D.Desk.state c.args.desk.now)
    (g.D.Desk.state c.fail_all-lost.new.desk)
    (record { came = ran.came; sent = ran.sent; ended = c.end_of.result }) c.end_of.result ran.holds

pub returns-clause-reason : goal.returns-clause-reason
returns-clause-reason g c =
    subst (λ (r : Result Ended SessionFault). IsReason c.args.reader.now.state c.serve-stopped.new.reader r)
    (sym c.end_of.ensures)
    (reason_to_end c.args.reader.now.state c.serve-stopped.new.reader c.serve-stopped.result c.fail_all-lost.result c.serve-stopped.ensures.reason)

-- the outlet is new, so what it may send is what its writer may get
pub serve-stopped-requires-clause-fair : goal.serve-stopped-requires-clause-fair
serve-stopped-requires-clause-fair g c =
    let made = c.new-outlet.ensures in
    let outlet = c.new-outlet.result in
    let desk = desk_rules g.D.Desk c.args.policy.now in
    let from = g.D.Desk.state c.args.desk.now in
    let reader = c.args.reader.now.inner.now in
    let writer = c.args.writer.inner.now in
    let old = g.W.Recipient.contents writer in
    let fresh = ap (λ (writer : LimitedWriter g.row.W.Denot). writer.inner.now) made.same in
    let got = known_at_first _ old outlet.gathered.items made.empty (ap g.W.Recipient.contents fresh) in
    subst (λ (delivery : Delivery). DemandsOnlyAnswers (session_rules desk delivery
    (HadGotBehind g.W.Recipient.contents (sent_to g.W.Recipient outlet))) (point from c.args.room.now.session.held)
    g.D.Desk.shows g.R.Read.remaining reader g.W.Recipient.contents g.W.Recipient.demands outlet.writer.inner.now)
    (sym made.delivery)
    (subst (λ (known : Option (List ℕ)). DemandsOnlyAnswers (session_rules desk c.args.room.now.delivery
    (HadGotBehind g.W.Recipient.contents known)) (point from c.args.room.now.session.held)
    g.D.Desk.shows g.R.Read.remaining reader g.W.Recipient.contents g.W.Recipient.demands outlet.writer.inner.now)
    (sym got)
    (subst (λ (held : List Element). DemandsOnlyAnswers (session_rules desk c.args.room.now.delivery
    (HadGotBehind g.W.Recipient.contents old)) (point from held)
    g.D.Desk.shows g.R.Read.remaining reader g.W.Recipient.contents g.W.Recipient.demands outlet.writer.inner.now)
    (sym c.args.room.now.unheld)
    (subst (λ (w : g.row.W.Denot). DemandsOnlyAnswers (session_rules desk c.args.room.now.delivery
    (HadGotBehind g.W.Recipient.contents old)) (point from [])
    g.D.Desk.shows g.R.Read.remaining reader g.W.Recipient.contents g.W.Recipient.demands w)
    (sym fresh) c.requires)))
