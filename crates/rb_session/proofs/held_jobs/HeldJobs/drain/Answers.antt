-- What the desk hands out is not held, and its ids differ.
use Rattle.std.proofs.Common.{List, ◌++◌, Ok, sym, ap, subst, ◌∙◌}
use Rattle.rb_delayed.specs.declared.element.Element.{Element}
use Rattle.rb_queue.specs.declared.ask.Ask.TheVariants as asks
use Rattle.rb_queue.specs.declared.reply.Reply.TheVariants.{Drained}
use Rattle.rb_session.specs.Held.{AreNew}
use Rattle.rb_session.proofs.GivenJobs.{call_new}
use Rattle.rb_session.proofs.held_jobs.HeldJobs.drain.Goals as goal

pub put_all-self-inside-requires-clause-new : goal.put_all-self-inside-requires-clause-new
put_all-self-inside-requires-clause-new g c =
    let drained = c.in_ok-drain.ensures.drained in
    let new = call_new g.D.Desk.gives g.D.Desk.Steps g.D.Desk.mine g.met.D.Desk.makes g.met.D.Desk.gives_once
    g.met.D.Desk.refuses
    (g.D.Desk.state c.args.desk.now) (g.D.Desk.state c.drain.new.desk) c.args.asked (asks.Drain c.args.max)
    (Ok (Drained drained.0)) c.args.self.now drained.2 c.requires.given in
    subst (λ (held : List Element). AreNew held c.drain.new.jobs.items) (sym c.self.view_is)
    (subst (AreNew c.args.self.now) (sym (drained.1
    ∙ ap (λ (jobs : List Element). jobs ++ drained.0) c.self.invariant.2)) new)
