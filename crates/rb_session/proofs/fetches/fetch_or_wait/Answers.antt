-- One try that answers is a call, and a call after one that did not is a call from before it.
use Rattle.std.proofs.Common.{◌<◌, ℕ, Bool, length, List, Result, inl, inr, sym, subst, arith}
use Rattle.std.proofs.lemmas.Bool.{lt-ltb}
use Rattle.std.specs.Prelude.{MatchBool}
use Rattle.rb_protocol.specs.declared.line_reply.LineReply.{LineReply}
use Rattle.rb_protocol.specs.declared.line_reply.LineReply.TheVariants as lines
use Rattle.rb_protocol.specs.declared.err_word.ErrWord.TheVariants as words
use Rattle.rb_queue.specs.declared.ask.Ask.{Ask}
use Rattle.rb_queue.specs.declared.reply.Reply.{Reply}
use Rattle.rb_retry.specs.Jobs.{answer_with}
use Rattle.rb_retry.specs.Made.{Made}
use Rattle.rb_retry.specs.declared.desk_fault.DeskFault.{DeskFault}
use Rattle.rb_session.specs.Held.{AreGiven}
use Rattle.rb_session.specs.Progress.{replies_of}
use Rattle.rb_session.specs.Turn.{Point, point, IsCall, IsFetch, AnswersAlone}
use Rattle.rb_session.specs.declared.held_jobs.TheConstants.{MOST_HELD}
use Rattle.rb_session.proofs.Gatherings.{stays}
use Rattle.rb_session.proofs.GivenJobs.{call_new}
use Rattle.rb_session.proofs.fetches.fetch_or_wait.Given.{Over}
use Rattle.rb_session.proofs.fetches.fetch_or_wait.Goals as goal
use Rattle.rb_session.proofs.fetches.fetch_or_wait.Goals.{In-Some}

-- where there is room for one job more, a fetch is a call
module _ {S : Type 0} (Steps : S → ℕ → Ask → Result Reply DeskFault → S → Type 0) (old : Point S) (handed : ℕ) (ask : Ask)
    (replies : List LineReply) (new : Point S) (few : length old.held < MOST_HELD) where
  abbrev Either : Bool → Type 0
  Either room = MatchBool room (IsCall Steps old handed ask replies new) (AnswersAlone (lines.Err words.Held) old replies new)

  fetches : IsCall Steps old handed ask replies new → IsFetch Steps old handed ask replies new
  fetches call = subst Either (sym (lt-ltb (length old.held) MOST_HELD few)) call

  calls : IsFetch Steps old handed ask replies new → IsCall Steps old handed ask replies new
  calls fetch = subst Either (lt-ltb (length old.held) MOST_HELD few) fetch

-- what one try answered is what a call does
once : (g : Over) (c : In-Some g) → g.D.Desk.Steps (g.D.Desk.state c.args.desk.now) c.args.asked c.args.ask.now
    (answer_with c.in-Some.fetched) (g.D.Desk.state c.try_fetch.new.desk)
once g c =
    g.met.D.Desk.tries_once (g.D.Desk.state c.args.desk.now) (g.D.Desk.state c.try_fetch.new.desk)
    c.args.now c.args.asked c.args.ask.now (answer_with c.in-Some.fetched) c.requires.waits c.requires.read
    c.in-Some.ensures.tried

pub hold-requires-clause-new : goal.hold-requires-clause-new
hold-requires-clause-new g c =
    call_new g.D.Desk.gives g.D.Desk.Steps g.D.Desk.mine g.met.D.Desk.makes g.met.D.Desk.gives_once
    g.met.D.Desk.refuses (g.D.Desk.state c.args.desk.now) (g.D.Desk.state c.try_fetch.new.desk) c.args.asked
    c.args.ask.now (answer_with c.in-Some.fetched) c.args.held.now
    (once g (goal.at.hold-requires-clause-new g c).In-Some) c.requires.given

pub returns-in-Some-clause-fetched : goal.returns-in-Some-clause-fetched
returns-in-Some-clause-fetched g c =
    let few : length c.args.held.now < MOST_HELD = omega (arith, c.free.ensures.free, c.if-free-eq0.false) in
    fetches g.D.Desk.Steps (point (g.D.Desk.state c.args.desk.now) c.args.held.now) c.args.asked c.args.ask.now
    (replies_of c.hold.result c.hold.new.held) (point (g.D.Desk.state c.try_fetch.new.desk) c.hold.new.held) few (
      answer_with c.in-Some.fetched,
      once g (goal.at.returns-in-Some-clause-fetched g c).In-Some,
      c.hold.ensures.lines,
      c.hold.ensures.held,
    )

pub returns-in-Some-clause-waits : goal.returns-in-Some-clause-waits
returns-in-Some-clause-waits g c =
    let few : length c.args.held.now < MOST_HELD = omega (arith, c.free.ensures.free, c.if-free-eq0.false) in
    inl (fetches g.D.Desk.Tries (point (g.D.Desk.state c.args.desk.now) c.args.held.now) c.args.now c.args.ask.now
    (replies_of c.hold.result c.hold.new.held) (point (g.D.Desk.state c.try_fetch.new.desk) c.hold.new.held) few (
      answer_with c.in-Some.fetched,
      c.in-Some.ensures.tried,
      c.hold.ensures.lines,
      c.hold.ensures.held,
    ))

pub fetch_job-requires-clause-given : goal.fetch_job-requires-clause-given
fetch_job-requires-clause-given g c =
    subst (λ (mades : List Made). AreGiven mades c.args.held.now)
    (sym (g.met.D.Desk.misses (g.D.Desk.state c.args.desk.now) (g.D.Desk.state c.try_fetch.new.desk)
    c.in-None.ensures.tried)) c.requires.given

pub returns-then-free-eq0-clause-becomes : goal.returns-then-free-eq0-clause-becomes
returns-then-free-eq0-clause-becomes g c = stays g.W.Recipient c.args.outlet.now

pub returns-in-Some-clause-becomes : goal.returns-in-Some-clause-becomes
returns-in-Some-clause-becomes g c = stays g.W.Recipient c.args.outlet.now

pub returns-in_err-before_wait-in-None-clause-becomes : goal.returns-in_err-before_wait-in-None-clause-becomes
returns-in_err-before_wait-in-None-clause-becomes g c = c.before_wait.ensures.becomes

pub returns-in_err-before_wait-in-None-clause-kept : goal.returns-in_err-before_wait-in-None-clause-kept
returns-in_err-before_wait-in-None-clause-kept g c = c.before_wait.ensures.kept

pub returns-in_ok-before_wait-in-None-clause-becomes : goal.returns-in_ok-before_wait-in-None-clause-becomes
returns-in_ok-before_wait-in-None-clause-becomes g c = c.before_wait.ensures.becomes

pub returns-in_ok-before_wait-in-None-clause-kept : goal.returns-in_ok-before_wait-in-None-clause-kept
returns-in_ok-before_wait-in-None-clause-kept g c = c.before_wait.ensures.kept

pub returns-in_ok-before_wait-in-None-clause-fetched : goal.returns-in_ok-before_wait-in-None-clause-fetched
returns-in_ok-before_wait-in-None-clause-fetched g c =
    let few : length c.args.held.now < MOST_HELD = omega (arith, c.free.ensures.free, c.if-free-eq0.false) in
    let after = point (g.D.Desk.state c.fetch_job.new.desk) c.fetch_job.new.held in
    let replies = replies_of c.fetch_job.result c.fetch_job.new.held in
    let (answer, steps, shown, held) = calls g.D.Desk.Steps (point (g.D.Desk.state c.try_fetch.new.desk) c.args.held.now)
    c.args.asked c.args.ask.now replies after few c.fetch_job.ensures in
    fetches g.D.Desk.Steps (point (g.D.Desk.state c.args.desk.now) c.args.held.now) c.args.asked c.args.ask.now
    replies after few (
      answer,
      g.met.D.Desk.tries_again (g.D.Desk.state c.args.desk.now) (g.D.Desk.state c.try_fetch.new.desk)
          (g.D.Desk.state c.fetch_job.new.desk) c.args.asked c.args.ask.now answer c.in-None.ensures.tried steps,
      shown,
      held,
    )

pub returns-in_ok-before_wait-in-None-clause-waits : goal.returns-in_ok-before_wait-in-None-clause-waits
returns-in_ok-before_wait-in-None-clause-waits g c = inr c.in_ok-before_wait-in-None.ensures.clear
