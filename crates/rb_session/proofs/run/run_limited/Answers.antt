-- The room is for replies that are delivered as the caller says.
use Rattle.std.proofs.Common.{[], sym, subst}
use Rattle.rb_retry.specs.DeskRules.{desk_rules}
use Rattle.rb_session.specs.Rules.{session_rules, HadGotBehind}
use Rattle.rb_session.specs.Ran.{DemandsOnlyAnswers}
use Rattle.rb_session.specs.Turn.{point}
use Rattle.rb_session.specs.declared.delivery.Delivery.{Delivery}
use Rattle.rb_session.proofs.run.run_limited.Goals as goal

pub run_in-requires : goal.run_in-requires
run_in-requires g c =
    subst (λ (delivery : Delivery). DemandsOnlyAnswers (session_rules (desk_rules g.D.Desk c.args.policy.now) delivery
    (HadGotBehind g.W.Recipient.contents (g.W.Recipient.contents c.args.writer.inner.now)))
    (point (g.D.Desk.state c.args.desk.now) []) g.D.Desk.shows g.R.Read.remaining c.args.reader.now.inner.now
    g.W.Recipient.contents g.W.Recipient.demands c.args.writer.inner.now) (sym c.in-Ok.ensures) c.requires
