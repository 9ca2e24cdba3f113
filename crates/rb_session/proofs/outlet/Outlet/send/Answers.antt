-- A line that fits is gathered without new memory; a longer one goes out behind what was gathered.
use Rattle.std.proofs.Common.{rules, ◌≡◌, [], ◌++◌, sym, ap, subst, ◌∙◌}
use Rattle.rb_protocol.specs.ReplyText.{text_of}
use Rattle.rb_protocol.specs.Sending.{Accepts}
use Rattle.rb_protocol.proofs.WrittenBytes.{writes_then}
use Rattle.rb_session.specs.Growth.{grows_on}
use Rattle.rb_protocol.proofs.Sending.{sends_nothing}
use Rattle.rb_session.proofs.Gatherings.{sends_grow}
use Rattle.rb_session.proofs.Passed.{may_send_then, passes_at_once}
use Rattle.rb_session.proofs.outlet.Outlet.send.Goals as goal

pub returns-in_err-hand_on-clause-sent : goal.returns-in_err-hand_on-clause-sent
returns-in_err-hand_on-clause-sent g c =
    sends_nothing c.from_residual.result _ _ _ c.from_residual.ensures.0 c.hand_on.ensures.kept

pub returns-then-line-room-2-clause-becomes : goal.returns-then-line-room-2-clause-becomes
returns-then-line-room-2-clause-becomes g c = record {
  on = writes_then c.hand_on.ensures.becomes.on c.send_line.ensures.on;
  grows = grows_on _ _ _ c.hand_on.ensures.becomes.grows
      (sends_grow c.send_line.result _ _ _ c.send_line.ensures.sent);
  delivery = c.hand_on.ensures.becomes.delivery;
}

-- behind what was handed on, which leaves nothing held back
pub send_line-requires : goal.send_line-requires
send_line-requires g c =
    let line : c.as_bytes-line.result.now ≡ text_of c.args.reply.now = search rules in
    subst (Accepts g.W.Recipient.contents g.W.Recipient.demands c.hand_on.new.self.writer.inner.now c.args.shown.now)
    (ap (λ g. g ++ text_of c.args.reply.now) c.in_ok-hand_on.ensures.clear ∙ sym line)
    (may_send_then g.W.Recipient c.args.self.now c.hand_on.new.self c.args.shown.now [] (text_of c.args.reply.now)
    c.in_ok-hand_on.ensures.passes c.requires)

pub returns-then-line-room-2-clause-passes : goal.returns-then-line-room-2-clause-passes
returns-then-line-room-2-clause-passes g c =
    let line : c.as_bytes-line.result.now ≡ text_of c.args.reply.now = search rules in
    passes_at_once g.W.Recipient c.send_line.result c.args.self.now c.hand_on.new.self _ (text_of c.args.reply.now) _ line
    c.in_ok-hand_on.ensures.passes c.in_ok-hand_on.ensures.clear c.in_ok-hand_on.ensures.clear c.send_line.ensures.sent
