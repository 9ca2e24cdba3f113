-- What was gathered was sent, or a write had failed: nothing is gathered any more.
use Rattle.std.proofs.Common.{rules, ap, sym, subst}
use Rattle.rb_protocol.specs.Sending.{Sends}
use Rattle.rb_protocol.specs.Writes.{WritesOn}
use Rattle.rb_history.proofs.Outlets.{grows_sent, grows_stopped}
use Rattle.rb_history.proofs.outlet.Outlet.hand_on.Goals.{then-is_ok, else-is_ok}
use Rattle.rb_history.proofs.outlet.Outlet.hand_on.Goals as goal

pub returns-clause-grows : goal.returns-clause-grows
returns-clause-grows g c =
    let old = c.args.self.now in
    elim c.if-is_ok.branch [
      | then-is_ok w ↦
          grows_sent g.W.Write old _ w.deref.result.now (search rules) w.deref.ensures.value c.clear.ensures.items
          (subst (λ s. Sends s.1.1.1.0 (g.W.Write.contents old.writer.inner.now) w.deref.result.now (g.W.Write.contents s.1.0.inner.now))
          (sym w.self-is) w.send_line-self.ensures.sent)
          (subst (λ s. WritesOn old.writer s.1.0) (sym w.self-is) w.send_line-self.ensures.on)
      | else-is_ok w ↦
          grows_stopped g.W.Write old _ (search rules) (ap (λ s. s.1.0) w.self-is) (ap (λ s. s.1.1.1.0) w.self-is)
    ]
