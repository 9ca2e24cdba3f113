-- There are as many entries as the heap has.
use Rattle.std.proofs.Common.{arith}
use Rattle.rb_binary.proofs.Contents.{len-content}
use Rattle.rb_binary.proofs.binary_timer.BinaryTimerTimer.len.Goals as goal

pub returns : goal.returns
returns c =
    let timer = c.args.self.now in
    let counted = len-content timer.heap.items timer.places.items timer.agrees in
    grind (arith, counted)
