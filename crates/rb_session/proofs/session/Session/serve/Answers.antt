-- Each line adds its turn to those before it, each read adds bytes behind them, and each way out is an end.
use Rattle.std.proofs.Common.{rules, ◌≡◌, ◌⊎◌, ℕ, List, ◌++◌, refl, [], Ok, inl, inr, sym, subst, ◌∙◌, true, false, arith}
use Rattle.std.proofs.lemmas.List.{append-nil}
use Rattle.std.proofs.KnownBytes.{Appends-nil, Appends-kept, Consumes-nil, Consumes-trans, Keeps-refl}
use Rattle.std.specs.Io.KnownBytes.{Consumes, IsAtEnd}
use Rattle.rb_retry.specs.DeskRules.{desk_rules}
use Rattle.rb_session.specs.Outlet.{sent_to, rules_at, Passes}
use Rattle.rb_session.specs.Exchange.{Exchanges}
use Rattle.rb_session.specs.Progress.{replies_of, Stops}
use Rattle.rb_session.specs.Rules.{SessionRules, IsGathered, WritesBeforeWaits}
use Rattle.rb_session.specs.Session.{GotBeforeWait, ServesToQuit, texts_of}
use Rattle.rb_session.specs.Turn.{Point, point, NeedsNoWait}
use Rattle.rb_session.specs.declared.delivery.Delivery.{Delivery}
use Rattle.rb_session.proofs.Gatherings.{goes_on as becomes_on, gets, stays}
use Rattle.rb_session.proofs.GivenJobs.{given_along}
use Rattle.rb_session.proofs.LongerExchanges.{exchanges_same, exchanges_more, exchanges_sent}
use Rattle.rb_session.proofs.Outlets.{gathers, stops_failed, stops_served, fails_to_read, stops_reading}
use Rattle.rb_session.proofs.Passed.{passes_nothing, passes_then, may_answer, may_give}
use Rattle.rb_session.proofs.Turns.{serves_none, reads_more, goes_on, quits, fails}
use Rattle.rb_session.proofs.session.Session.serve.Given.{Over}
use Rattle.rb_session.proofs.session.Session.serve.Goals as goal
use Rattle.rb_session.proofs.session.Session.serve.Goals.{After-next_request, In_ok-answer, In-Some-2, Then-quits}
use Rattle.rb_session.proofs.session.Session.serve.Goals.{in-Ok-Quit, in_default-matches, in_default-matches-2}

abbrev own : (g : Over) → After-next_request g → SessionRules g.D.Desk.State
own g c = rules_at (desk_rules g.D.Desk c.args.policy.now) g.W.Recipient c.args.outlet.now

abbrev after : (g : Over) → In_ok-answer g → Point g.D.Desk.State
after g c = point (g.D.Desk.state c.answer.new.desk) c.answer.new.held

-- before the line waited, if it had to, the writer had got what answers those before it
waits : (g : Over) (c : In_ok-answer g)
    → GotBeforeWait (own g (goal.at.In_ok-answer g c).After-next_request) c.loop-reading.invariant.served.sent
    (point (g.D.Desk.state c.loop-reading.desk) c.loop-reading.self.held) c.in-Some.reading
    (replies_of c.answer.new.reply c.answer.new.held) (after g c)
waits g c = of_case c.in_ok-answer.ensures.waits
  where
    of_case : NeedsNoWait (desk_rules g.D.Desk c.args.policy.now)
        (point (g.D.Desk.state c.loop-reading.desk) c.loop-reading.self.held) c.in-Some.reading
        (replies_of c.answer.new.reply c.answer.new.held) (after g c)
        ⊎ (WritesBeforeWaits c.loop-reading.outlet.delivery → c.answer.new.outlet.gathered.items ≡ [])
        → GotBeforeWait (own g (goal.at.In_ok-answer g c).After-next_request) c.loop-reading.invariant.served.sent
        (point (g.D.Desk.state c.loop-reading.desk) c.loop-reading.self.held) c.in-Some.reading
        (replies_of c.answer.new.reply c.answer.new.held) (after g c)
    of_case (inl at_once) = inl at_once
    of_case (inr clear) =
        let s = c.loop-reading.invariant in
        inr (λ writes. gets g.W.Recipient c.args.outlet.now c.answer.new.outlet s.served.sent
        (clear (subst (λ (d : Delivery). WritesBeforeWaits d) (sym s.becomes.delivery) writes))
        (Appends-kept _ _ _ _ s.served.appended c.answer.ensures.kept))

-- the answer moved nothing but what was held back
answered : (g : Over) (c : In_ok-answer g)
    → Passes g.W.Recipient c.args.outlet.now c.loop-reading.invariant.served.sent c.answer.new.outlet
answered g c =
    subst (λ (t : List ℕ). Passes g.W.Recipient c.args.outlet.now t c.answer.new.outlet)
    (append-nil c.loop-reading.invariant.served.sent)
    (passes_then g.W.Recipient _ _ _ c.loop-reading.invariant.served.sent [] c.loop-reading.invariant.passed
    c.in_ok-answer.ensures.passes)

pub loop-reading-init : goal.loop-reading-init
unfolding serves_none
loop-reading-init g c = record {
  served = record {
    came = [];
    sent = [];
    consumed = Consumes-nil _;
    appended = Appends-nil _;
    holds = (
      serves_none (rules_at (desk_rules g.D.Desk c.args.policy.now) g.W.Recipient c.args.outlet.now)
          (point (g.D.Desk.state c.args.desk.now) c.args.self.now.held) [],
      c.requires.fresh,
    );
  };
  passed = passes_nothing g.W.Recipient c.args.outlet.now;
  counted = omega arith;
  still = λ failed. failed;
  same_reference = refl;
  well = λ failed. failed;
  becomes = stays g.W.Recipient c.args.outlet.now;
}

-- what was served could not be handed on before a read, or the end of the input not be answered
pub returns-in_err-stop-clause-stops : goal.returns-in_err-stop-clause-stops
returns-in_err-stop-clause-stops g c =
    let s = c.loop-reading.invariant.served in
    let rest = c.in_default.ensures.line s.holds.0.unserved s.holds.1 in
    let read = c.in_err-stop.ensures.came s.holds.0.unserved rest.1 rest.0 in
    exchanges_more s _ (Keeps-refl _) read.came read.sent _ read.consumed read.appended
    (stops_failed _ _ _ _ _ c.from_residual.result c.from_residual.ensures.0
    (fails_to_read _ _ s.holds.0 rest.0 read.came read.sent c.loop-reading.outlet.delivery
    c.loop-reading.invariant.becomes.delivery read.holds.0))

pub returns-in_err-stop-clause-becomes : goal.returns-in_err-stop-clause-becomes
returns-in_err-stop-clause-becomes g c =
    becomes_on g.W.Recipient _ _ _ c.loop-reading.invariant.becomes c.read_more.ensures.becomes

-- a read, or that there may be none, stopped the session
pub loop-reading-preserved-in_default-2 : goal.loop-reading-preserved-in_default-2
unfolding exchanges_more
loop-reading-preserved-in_default-2 g c =
    let s = c.loop-reading.invariant.served in
    let rest = c.in_default.ensures.line s.holds.0.unserved s.holds.1 in
    let read = rw c.in_default-2.is at (c.in_ok-stop.ensures.came s.holds.0.unserved rest.1 rest.0) in
    record {
      served = exchanges_more s _ (Keeps-refl _) read.came read.sent _ read.consumed read.appended
          (reads_more _ s.holds.0 read.came read.sent read.holds.0.0 c.read_more.new.buffer read.holds.0.1);
      passed = passes_then g.W.Recipient _ _ _ s.sent read.sent c.loop-reading.invariant.passed read.holds.1;
      counted = omega (arith, c.loop-reading.invariant.counted, c.read_more.ensures.counted);
      still = λ failed. c.loop-reading.invariant.still ((rw c.in_default-2.is at c.in_ok-stop.ensures.reason) failed);
      same_reference = c.read_more.ensures.same_reference ∙ c.loop-reading.invariant.same_reference;
      well = λ failed. c.loop-reading.invariant.well (c.in_ok-stop.ensures.told failed);
      becomes = becomes_on g.W.Recipient _ _ _ c.loop-reading.invariant.becomes c.read_more.ensures.becomes;
    }

stopped : (g : Over) (c : In-Some-2 g) → Exchanges
    (g.R.Read.remaining c.args.reader.now.inner.now) (g.R.Read.remaining c.read_more.new.reader.inner.now)
    (sent_to g.W.Recipient c.args.outlet.now) (sent_to g.W.Recipient c.read_more.new.outlet)
    (λ came sent. Stops (own g (goal.at.In-Some-2 g c).After-next_request)
    (IsAtEnd (g.R.Read.remaining c.read_more.new.reader.inner.now))
    (point (g.D.Desk.state c.args.desk.now) c.args.self.now.held) came sent (Ok c.in-Some-2.stop)
    (point (g.D.Desk.state c.loop-reading.desk) c.loop-reading.self.held))
stopped g c =
    let s = c.loop-reading.invariant.served in
    let rest = c.in_default.ensures.line s.holds.0.unserved s.holds.1 in
    let read = rw c.in-Some-2.is at (c.in_ok-stop.ensures.came s.holds.0.unserved rest.1 rest.0) in
    exchanges_more s _ (Keeps-refl _) read.came read.sent _ read.consumed read.appended
    (stops_reading _ _ s.holds.0 rest.0 read.came read.sent c.loop-reading.outlet.delivery c.in-Some-2.stop
    c.read_more.new.buffer read.holds.0)

pub returns-in_default-clause-stops : goal.returns-in_default-clause-stops
returns-in_default-clause-stops g c =
    let s = stopped g (goal.at.returns-in_default-clause-stops g c).In-Some-2 in
    exchanges_same s _ c.hand_on.ensures.kept (Keeps-refl _) s.holds

pub returns-in_default-clause-told : goal.returns-in_default-clause-told
returns-in_default-clause-told g c =
    λ failed. c.loop-reading.invariant.well (c.in_ok-stop.ensures.told (c.in_ok-hand_on.ensures.told failed))

pub returns-in_default-clause-becomes : goal.returns-in_default-clause-becomes
returns-in_default-clause-becomes g c =
    becomes_on g.W.Recipient _ _ _
    (becomes_on g.W.Recipient _ _ _ c.loop-reading.invariant.becomes c.read_more.ensures.becomes)
    c.hand_on.ensures.becomes

-- and then a reply could not be handed on
pub returns-in_err-hand_on-clause-stops : goal.returns-in_err-hand_on-clause-stops
returns-in_err-hand_on-clause-stops g c =
    let s = stopped g (goal.at.returns-in_err-hand_on-clause-stops g c).In-Some-2 in
    let late = subst (λ (d : Delivery). IsGathered d)
    (c.read_more.ensures.becomes.delivery ∙ c.loop-reading.invariant.becomes.delivery)
    (gathers _ _ c.in_err-hand_on.ensures.late c.read_more.new.outlet.few) in
    exchanges_same s _ c.hand_on.ensures.kept (Keeps-refl _)
    (stops_failed _ _ _ _ _ c.from_residual-in_err-hand_on.result
    c.from_residual-in_err-hand_on.ensures.0 (inr (late, stops_served _ _ _ _ _ c.in-Some-2.stop s.holds)))

pub returns-in_err-hand_on-clause-becomes : goal.returns-in_err-hand_on-clause-becomes
returns-in_err-hand_on-clause-becomes g c =
    becomes_on g.W.Recipient _ _ _
    (becomes_on g.W.Recipient _ _ _ c.loop-reading.invariant.becomes c.read_more.ensures.becomes)
    c.hand_on.ensures.becomes

-- what is held was given by the desk
pub answer-requires-clause-given : goal.answer-requires-clause-given
answer-requires-clause-given g c =
    let first = c.loop-reading.invariant.served.holds.0 in
    given_along (desk_rules g.D.Desk c.args.policy.now) g.D.Desk.mine g.met.D.Desk.makes g.met.D.Desk.gives_once
    g.met.D.Desk.refuses g.met.D.Desk.stays (point (g.D.Desk.state c.args.desk.now) c.args.self.now.held)
    (point (g.D.Desk.state c.loop-reading.desk) c.loop-reading.self.held) first.turns c.requires.none first.serves

-- what answers the lines so far could not be handed on before a wait
pub returns-in_err-answer-clause-stops : goal.returns-in_err-answer-clause-stops
returns-in_err-answer-clause-stops g c =
    let s = c.loop-reading.invariant.served in
    let late = subst (λ (d : Delivery). IsGathered d) c.loop-reading.invariant.becomes.delivery
    c.in_err-answer.ensures.late in
    let (missed, same) = c.in_err-answer.ensures.missed in
    exchanges_same s _ c.answer.ensures.kept (Keeps-refl _)
    (stops_failed _ _ _ _ _ c.from_residual-in_err-answer.result c.from_residual-in_err-answer.ensures.0
    (inr (
      late,
      inr (inr (inr (
        point (g.D.Desk.state c.loop-reading.desk) c.loop-reading.self.held,
        s.holds.0,
        missed,
        same,
      ))),
    )))

pub returns-in_err-answer-clause-becomes : goal.returns-in_err-answer-clause-becomes
returns-in_err-answer-clause-becomes g c =
    becomes_on g.W.Recipient _ _ _ c.loop-reading.invariant.becomes c.answer.ensures.becomes

-- a reply could not be sent
pub returns-in_err-send_replies-clause-stops : goal.returns-in_err-send_replies-clause-stops
returns-in_err-send_replies-clause-stops g c =
    let s = c.loop-reading.invariant.served in
    let line = c.in-Some.ensures.line s.holds.0.unserved s.holds.1 in
    let on = (goal.at.returns-in_err-send_replies-clause-stops g c).In_ok-answer in
    let sent = c.in_err-send_replies.ensures.sent in
    exchanges_sent s _ c.answer.ensures.kept sent.0 _ sent.3
    (stops_failed _ _ _ _ _ c.from_residual-in_err-send_replies.result c.from_residual-in_err-send_replies.ensures.0
    (inl (fails _ s.holds.0 (after g on) line.0 line.1 c.in-Some.reading _ line.2 (line.3, line.4)
    c.in_ok-answer.ensures.turn (waits g on) _ sent.0 sent.1 sent.2)))

pub returns-in_err-send_replies-clause-becomes : goal.returns-in_err-send_replies-clause-becomes
returns-in_err-send_replies-clause-becomes g c =
    becomes_on g.W.Recipient _ _ _
    (becomes_on g.W.Recipient _ _ _ c.loop-reading.invariant.becomes c.answer.ensures.becomes)
    c.send_replies.ensures.becomes

pub loop-reading-preserved : goal.loop-reading-preserved
unfolding exchanges_sent
loop-reading-preserved g c =
    let s = c.loop-reading.invariant.served in
    let line = c.in-Some.ensures.line s.holds.0.unserved s.holds.1 in
    let on = (goal.at.loop-reading-preserved g c).In_ok-answer in
    record {
      served = exchanges_sent s _ c.answer.ensures.kept
          (texts_of (replies_of c.answer.new.reply c.answer.new.held)) _ c.in_ok-send_replies.ensures.sent
          (goes_on _ s.holds.0 (after g on) line.0 line.1 c.in-Some.reading _ line.2 (line.3, line.4)
          c.in_ok-answer.ensures.turn (waits g on)
          (λ quit. elim c.match-matches.branch [
            | in-Ok-Quit w ↦ let clash : true ≡ false = sym w.matches-is ∙ c.if-quits.false in absurd (cc)
            | in_default-matches w ↦ let arm = w.in_default-matches in search rules
            | in_default-matches-2 w ↦ let arm = w.in_default-matches in search rules
          ])
          c.next_request.new.self line.5);
      passed = passes_then g.W.Recipient _ _ _ s.sent _ (answered g on) c.in_ok-send_replies.ensures.passes;
      counted = c.loop-reading.invariant.counted;
      still = c.loop-reading.invariant.still;
      same_reference = c.loop-reading.invariant.same_reference;
      well = λ failed. c.loop-reading.invariant.well (c.in_ok-answer.ensures.told (c.in_ok-send_replies.ensures.told failed));
      becomes = becomes_on g.W.Recipient _ _ _
          (becomes_on g.W.Recipient _ _ _ c.loop-reading.invariant.becomes c.answer.ensures.becomes)
          c.send_replies.ensures.becomes;
    }

-- a line ended the session
quitted : (g : Over) (c : Then-quits g) → ServesToQuit (own g (goal.at.Then-quits g c).After-next_request)
    (point (g.D.Desk.state c.args.desk.now) c.args.self.now.held) c.loop-reading.invariant.served.came
    (c.loop-reading.invariant.served.sent ++ texts_of (replies_of c.answer.new.reply c.answer.new.held))
    (after g (goal.at.Then-quits g c).In_ok-answer)
quitted g c =
    let s = c.loop-reading.invariant.served in
    let line = c.in-Some.ensures.line s.holds.0.unserved s.holds.1 in
    let on = (goal.at.Then-quits g c).In_ok-answer in
    quits _ s.holds.0 (after g on) line.0 line.1 c.in-Some.reading _ line.2 (line.3, line.4)
    c.in_ok-answer.ensures.turn (waits g on) line.6 (elim c.match-matches.branch [
      | in-Ok-Quit w ↦ let arm = w.in-Ok-Quit in search rules
      | in_default-matches w ↦ let clash : true ≡ false = sym c.if-quits.true ∙ w.matches-is in absurd (cc)
      | in_default-matches-2 w ↦ let clash : true ≡ false = sym c.if-quits.true ∙ w.matches-is in absurd (cc)
    ])

ended : (g : Over) (c : Then-quits g) → Exchanges
    (g.R.Read.remaining c.args.reader.now.inner.now) (g.R.Read.remaining c.loop-reading.reader.inner.now)
    (sent_to g.W.Recipient c.args.outlet.now) (sent_to g.W.Recipient c.send_replies.new.outlet)
    (λ came sent. ServesToQuit (own g (goal.at.Then-quits g c).After-next_request)
    (point (g.D.Desk.state c.args.desk.now) c.args.self.now.held) came sent
    (after g (goal.at.Then-quits g c).In_ok-answer))
ended g c =
    exchanges_sent c.loop-reading.invariant.served _ c.answer.ensures.kept
    (texts_of (replies_of c.answer.new.reply c.answer.new.held)) _ c.in_ok-send_replies.ensures.sent (quitted g c)

pub returns-then-quits-clause-stops : goal.returns-then-quits-clause-stops
returns-then-quits-clause-stops g c =
    let s = ended g (goal.at.returns-then-quits-clause-stops g c).Then-quits in
    exchanges_same s _ c.hand_on-then-quits.ensures.kept (Keeps-refl _) s.holds

pub returns-then-quits-clause-told : goal.returns-then-quits-clause-told
returns-then-quits-clause-told g c =
    λ failed. c.loop-reading.invariant.well (c.in_ok-answer.ensures.told (c.in_ok-send_replies.ensures.told
    (c.in_ok-hand_on-2.ensures.told failed)))

pub returns-then-quits-clause-becomes : goal.returns-then-quits-clause-becomes
returns-then-quits-clause-becomes g c =
    becomes_on g.W.Recipient _ _ _
    (becomes_on g.W.Recipient _ _ _
    (becomes_on g.W.Recipient _ _ _ c.loop-reading.invariant.becomes c.answer.ensures.becomes)
    c.send_replies.ensures.becomes) c.hand_on-then-quits.ensures.becomes

-- and then a reply could not be handed on
pub returns-in_err-hand_on-2-clause-stops : goal.returns-in_err-hand_on-2-clause-stops
returns-in_err-hand_on-2-clause-stops g c =
    let s = ended g (goal.at.returns-in_err-hand_on-2-clause-stops g c).Then-quits in
    let late = subst (λ (d : Delivery). IsGathered d)
    (c.send_replies.ensures.becomes.delivery ∙ c.answer.ensures.becomes.delivery
    ∙ c.loop-reading.invariant.becomes.delivery)
    (gathers _ _ c.in_err-hand_on-2.ensures.late c.send_replies.new.outlet.few) in
    exchanges_same s _ c.hand_on-then-quits.ensures.kept (Keeps-refl _)
    (stops_failed _ _ _ _ _ c.from_residual-in_err-hand_on-2.result c.from_residual-in_err-hand_on-2.ensures.0
    (inr (late, inl s.holds)))

pub returns-in_err-hand_on-2-clause-becomes : goal.returns-in_err-hand_on-2-clause-becomes
returns-in_err-hand_on-2-clause-becomes g c =
    becomes_on g.W.Recipient _ _ _
    (becomes_on g.W.Recipient _ _ _
    (becomes_on g.W.Recipient _ _ _ c.loop-reading.invariant.becomes c.answer.ensures.becomes)
    c.send_replies.ensures.becomes) c.hand_on-then-quits.ensures.becomes

-- what is sent at each moment answers what was served by then
pub answer-requires-clause-due : goal.answer-requires-clause-due
answer-requires-clause-due g c missed shown misses shows =
    let s = c.loop-reading.invariant.served in
    may_give (rules_at (desk_rules g.D.Desk c.args.policy.now) g.W.Recipient c.args.outlet.now)
    (point (g.D.Desk.state c.args.desk.now) c.args.self.now.held) g.D.Desk.shows g.R.Read.remaining
    c.args.reader.now.inner.now g.W.Recipient c.args.outlet.now c.requires.fair c.requires.nothing
    c.loop-reading.reader.inner.now s.came s.sent (point missed c.loop-reading.self.held) shown c.loop-reading.outlet
    s.consumed c.loop-reading.invariant.passed
    (inr (inr (inr (point (g.D.Desk.state c.loop-reading.desk) c.loop-reading.self.held, s.holds.0, misses, refl))))
    shows

pub read_more-requires-clause-due : goal.read_more-requires-clause-due
read_more-requires-clause-due g c =
    let s = c.loop-reading.invariant.served in
    may_give (rules_at (desk_rules g.D.Desk c.args.policy.now) g.W.Recipient c.args.outlet.now)
    (point (g.D.Desk.state c.args.desk.now) c.args.self.now.held) g.D.Desk.shows g.R.Read.remaining
    c.args.reader.now.inner.now g.W.Recipient c.args.outlet.now c.requires.fair c.requires.nothing
    c.loop-reading.reader.inner.now s.came s.sent (point (g.D.Desk.state c.loop-reading.desk) c.loop-reading.self.held)
    _ c.loop-reading.outlet s.consumed c.loop-reading.invariant.passed (inr (inr (inl s.holds.0)))
    c.witness.ensures

pub read_more-requires-clause-due_at_end : goal.read_more-requires-clause-due_at_end
read_more-requires-clause-due_at_end g c =
    let s = c.loop-reading.invariant.served in
    let rest = c.in_default.ensures.line s.holds.0.unserved s.holds.1 in (
      s.holds.0.unserved,
      rest.1,
      rest.0,
      λ reader' consumed over.
          may_answer (rules_at (desk_rules g.D.Desk c.args.policy.now) g.W.Recipient c.args.outlet.now)
          (point (g.D.Desk.state c.args.desk.now) c.args.self.now.held) g.D.Desk.shows g.R.Read.remaining
          c.args.reader.now.inner.now g.W.Recipient c.args.outlet.now c.requires.fair c.requires.nothing
          reader' s.came s.sent _ (point (g.D.Desk.state c.loop-reading.desk) c.loop-reading.self.held)
          _ c.loop-reading.outlet
          (subst (Consumes _ _) (append-nil s.came) (Consumes-trans _ _ _ s.came [] s.consumed consumed))
          c.loop-reading.invariant.passed
          (inr (inl (record { over = over; text = s.sent; first = s.holds.0; no_line = rest.0; answers = refl })))
          c.witness.ensures,
    )

pub hand_on-requires : goal.hand_on-requires
hand_on-requires g c =
    let s = c.loop-reading.invariant.served in
    let rest = c.in_default.ensures.line s.holds.0.unserved s.holds.1 in
    let read = rw c.in-Some-2.is at (c.in_ok-stop.ensures.came s.holds.0.unserved rest.1 rest.0) in
    let is = stops_reading _ _ s.holds.0 rest.0 read.came read.sent c.loop-reading.outlet.delivery c.in-Some-2.stop
    c.read_more.new.buffer read.holds.0 in
    may_give (rules_at (desk_rules g.D.Desk c.args.policy.now) g.W.Recipient c.args.outlet.now)
    (point (g.D.Desk.state c.args.desk.now) c.args.self.now.held) g.D.Desk.shows g.R.Read.remaining
    c.args.reader.now.inner.now g.W.Recipient c.args.outlet.now c.requires.fair c.requires.nothing
    c.read_more.new.reader.inner.now (s.came ++ read.came) (s.sent ++ read.sent)
    (point (g.D.Desk.state c.loop-reading.desk) c.loop-reading.self.held)
    _ c.read_more.new.outlet (Consumes-trans _ _ _ s.came read.came s.consumed read.consumed)
    (passes_then g.W.Recipient _ _ _ s.sent read.sent c.loop-reading.invariant.passed read.holds.1)
    (stops_served _ _ _ _ _ c.in-Some-2.stop is) c.witness-in_default.ensures

pub send_replies-requires : goal.send_replies-requires
send_replies-requires g c =
    let s = c.loop-reading.invariant.served in
    let line = c.in-Some.ensures.line s.holds.0.unserved s.holds.1 in
    let on = (goal.at.send_replies-requires g c).In_ok-answer in
    let replies = replies_of c.answer.new.reply c.answer.new.held in
    may_answer (rules_at (desk_rules g.D.Desk c.args.policy.now) g.W.Recipient c.args.outlet.now)
    (point (g.D.Desk.state c.args.desk.now) c.args.self.now.held) g.D.Desk.shows g.R.Read.remaining
    c.args.reader.now.inner.now g.W.Recipient c.args.outlet.now c.requires.fair c.requires.nothing
    c.loop-reading.reader.inner.now s.came s.sent (texts_of replies) (after g on) _ c.answer.new.outlet s.consumed
    (answered g on)
    (elim c.match-matches.branch [
      | in-Ok-Quit w ↦ inl (quits _ s.holds.0 (after g on) line.0 line.1 c.in-Some.reading _ line.2 (line.3, line.4)
          c.in_ok-answer.ensures.turn (waits g on) line.6 (let arm = w.in-Ok-Quit in search rules))
      | in_default-matches w ↦ inr (inr (inl (goes_on _ s.holds.0 (after g on) line.0 line.1 c.in-Some.reading _ line.2
          (line.3, line.4) c.in_ok-answer.ensures.turn (waits g on) (λ quit. let arm = w.in_default-matches in search rules)
          c.next_request.new.self line.5).0))
      | in_default-matches-2 w ↦ inr (inr (inl (goes_on _ s.holds.0 (after g on) line.0 line.1 c.in-Some.reading _ line.2
          (line.3, line.4) c.in_ok-answer.ensures.turn (waits g on)
          (λ quit. let arm = w.in_default-matches in search rules) c.next_request.new.self line.5).0))
    ])
    c.witness-in-loop-reading.ensures

pub hand_on-requires-then-quits : goal.hand_on-requires-then-quits
hand_on-requires-then-quits g c =
    let s = c.loop-reading.invariant.served in
    let at = goal.at.hand_on-requires-then-quits g c in
    let texts = texts_of (replies_of c.answer.new.reply c.answer.new.held) in
    may_give (rules_at (desk_rules g.D.Desk c.args.policy.now) g.W.Recipient c.args.outlet.now)
    (point (g.D.Desk.state c.args.desk.now) c.args.self.now.held) g.D.Desk.shows g.R.Read.remaining
    c.args.reader.now.inner.now g.W.Recipient c.args.outlet.now c.requires.fair c.requires.nothing
    c.loop-reading.reader.inner.now s.came (s.sent ++ texts) (after g at.In_ok-answer)
    _ c.send_replies.new.outlet s.consumed
    (passes_then g.W.Recipient _ _ _ s.sent texts (answered g at.In_ok-answer) c.in_ok-send_replies.ensures.passes)
    (inl (quitted g at.Then-quits)) c.witness-then-quits.ensures
