-- The desk gives no id twice, and each job that is held was given before.
use Rattle.std.proofs.Common.{◌≡◌, ℕ, Result, sym, subst, arith}
use Rattle.std.proofs.lemmas.Grind.{common_steps}
use Rattle.rb_queue.specs.declared.ask.Ask.{Ask}
use Rattle.rb_queue.specs.declared.reply.Reply.{Reply}
use Rattle.rb_retry.specs.Jobs.{answer_with, answer_with_one}
use Rattle.rb_retry.specs.declared.desk_fault.DeskFault.{DeskFault}
use Rattle.rb_session.specs.Held.{AreNew}
use Rattle.rb_session.specs.Turn.{fetched_by}
use Rattle.rb_session.proofs.GivenJobs.{call_new}
use Rattle.rb_session.proofs.fetches.fetch_job.Given.{Over}
use Rattle.rb_session.proofs.fetches.fetch_job.Goals as goal
use Rattle.rb_session.proofs.fetches.fetch_job.Goals.{After-free}

-- what a call hands out is not held
new : (g : Over) (c : After-free g) (asked : ℕ) (ask : Ask) (answer : Result Reply DeskFault) (to : g.D.Desk.State)
    → g.D.Desk.Steps (g.D.Desk.state c.args.desk.now) asked ask answer to
    → AreNew c.args.held.now (fetched_by answer)
new g c asked ask answer to steps =
    call_new g.D.Desk.gives g.D.Desk.Steps g.D.Desk.mine g.met.D.Desk.makes g.met.D.Desk.gives_once
    g.met.D.Desk.refuses (g.D.Desk.state c.args.desk.now) to asked ask answer c.args.held.now steps c.requires.given

pub hold-requires-clause-new : goal.hold-requires-clause-new
hold-requires-clause-new g c =
    new g (goal.at.hold-requires-clause-new g c).After-free _ _ _ _ c.poll.ensures.step

pub hold-requires-in-PollFor-clause-new : goal.hold-requires-in-PollFor-clause-new
hold-requires-in-PollFor-clause-new g c =
    new g (goal.at.hold-requires-in-PollFor-clause-new g c).After-free _ _ _ _ c.poll_for.ensures.step

pub hold-requires-in-Take-clause-new : goal.hold-requires-in-Take-clause-new
hold-requires-in-Take-clause-new g c =
    let same : answer_with c.map.result ≡ answer_with_one c.take.result = grind (arith, common_steps, c.map.ensures.cases) in
    subst (λ (answer : Result Reply DeskFault). AreNew c.args.held.now (fetched_by answer)) (sym same)
    (new g (goal.at.hold-requires-in-Take-clause-new g c).After-free _ _ _ _ c.take.ensures.step)
