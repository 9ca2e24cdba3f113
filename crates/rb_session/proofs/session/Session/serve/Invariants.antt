-- Of what came the first lines are served, and the buffer has the rest. Each turn takes a line out of it or reads once.
use Rattle.std.proofs.Common.{◌≡◌, ◌≤◌, ◌+◌, ◌-◌, ◌*◌}
use Rattle.rb_protocol.specs.Writes.{FailsNoMore}
use Rattle.rb_protocol.specs.Reads.{HasNotFailed}
use Rattle.rb_protocol.specs.declared.limits.TheConstants.{BUFFER_BYTES}
use Rattle.rb_retry.specs.DeskRules.{desk_rules}
use Rattle.rb_session.specs.Buffer.{IsUnserved}
use Rattle.rb_session.specs.Exchange.{Exchanges}
use Rattle.rb_session.specs.Outlet.{sent_to, rules_at, Becomes, Passes}
use Rattle.rb_session.specs.Session.{ServesFirst}
use Rattle.rb_session.specs.Turn.{point}
use Rattle.rb_session.proofs.session.Session.serve.Given as goal

abbrev pub invariant-loop-reading : goal.invariant-loop-reading
invariant-loop-reading g l = record {
  served : Exchanges (g.R.Read.remaining l.fn.reader.inner.now) (g.R.Read.remaining l.reader.inner.now)
      (sent_to g.W.Recipient l.fn.outlet) (sent_to g.W.Recipient l.outlet) (λ came sent.
      (first : ServesFirst (rules_at (desk_rules g.D.Desk l.policy) g.W.Recipient l.fn.outlet)
      (point (g.D.Desk.state l.fn.desk) l.fn.self.held) came sent (point (g.D.Desk.state l.desk) l.self.held))
      × IsUnserved l.self.buffer first.unserved);
  passed : Passes g.W.Recipient l.fn.outlet served.sent l.outlet;
  counted : l.reader.left ≤ l.fn.reader.left;
  still : HasNotFailed l.fn.reader.state l.reader.state;
  same_reference : l.reader.inner.ghost_name ≡ l.fn.reader.inner.ghost_name;
  well : FailsNoMore l.fn.outlet.writer.status.now.state l.outlet.writer.status.now;
  becomes : Becomes g.W.Recipient l.fn.outlet l.outlet;
}

abbrev pub decreases-loop-reading : goal.decreases-loop-reading
decreases-loop-reading g l = l.reader.left * (BUFFER_BYTES + 1) + (l.self.buffer.end - l.self.buffer.start)
