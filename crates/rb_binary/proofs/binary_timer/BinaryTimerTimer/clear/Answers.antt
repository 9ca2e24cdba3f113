-- A row of none has no entry.
use Rattle.std.proofs.Common.{arith, length}
use Rattle.rb_binary.proofs.Contents.{content_of-cleared}
use Rattle.rb_binary.proofs.Expiries.{written_back}
use Rattle.rb_binary.proofs.binary_timer.BinaryTimerTimer.clear.Goals as goal

pub returns-clause-content : goal.returns-clause-content
returns-clause-content c =
    let timer = c.args.self.now in
    let back = written_back timer.places.len c.forget_all.new.places timer.places.items (omega arith) in
    rw (back, c.forget_all.ensures) (content_of-cleared c.clear.new.self.items (length c.deref_mut.result.now))
