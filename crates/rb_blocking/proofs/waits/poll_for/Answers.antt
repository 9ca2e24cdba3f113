-- A timed poll's reply is an element or none.
use Rattle.rb_blocking.proofs.TimedReplies.{no_other_reply}
use Rattle.rb_blocking.proofs.waits.poll_for.Goals as goal

pub unreachable-requires : goal.unreachable-requires
unreachable-requires g c =
    let replied = c.in_ok-element.ensures.waited.replied in
    no_other_reply c.args.start c.args.timeout c.in_ok-element.field-0 c.in_default.not-Item c.in_default.not-Nothing
    c.args.pass.now.opening replied.before replied.event replied.records.act replied.records.reply
