-- The drain's line and the lines of the jobs so far are sent.
use Rattle.std.proofs.Common.{◌++◌, map, take}
use Rattle.std.specs.Io.KnownBytes.{Appends}
use Rattle.rb_protocol.specs.ReplyText.{text_of}
use Rattle.rb_protocol.specs.Writes.{FailsNoMore}
use Rattle.rb_protocol.specs.declared.line_reply.LineReply.TheVariants as lines
use Rattle.rb_session.specs.JobMap.{present}
use Rattle.rb_session.specs.Session.{texts_of}
use Rattle.rb_session.specs.Outlet.{sent_to, Becomes, Passes}
use Rattle.rb_session.proofs.replies.send_replies.Given as goal

abbrev pub invariant-loop-job : goal.invariant-loop-job
invariant-loop-job g l = record {
  sent : Appends (sent_to g.W.Recipient l.fn.outlet) (sent_to g.W.Recipient l.outlet)
      (text_of l.reply ++ texts_of (map lines.Item (present (take l.job-index l.job-items))));
  passed : Passes g.W.Recipient l.fn.outlet
      (text_of l.reply ++ texts_of (map lines.Item (present (take l.job-index l.job-items)))) l.outlet;
  well : FailsNoMore l.fn.outlet.writer.status.now.state l.outlet.writer.status.now;
  becomes : Becomes g.W.Recipient l.fn.outlet l.outlet;
}
