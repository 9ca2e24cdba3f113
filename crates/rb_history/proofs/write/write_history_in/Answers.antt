-- The whole text was pushed to an outlet to which nothing had been pushed, and what it held was sent.
use Rattle.std.proofs.Common.{rules}
use Rattle.rb_history.proofs.write.write_history_in.Goals as goal

pub returns-clause-writes : goal.returns-clause-writes
returns-clause-writes g c =
    let sent = c.finish-ended.ensures.sent _ _ (c.push_history.ensures.text.holds _ _ c.new-outlet.ensures.holds) in
    let same = c.into_writer.ensures in
    search rules
