-- The first entry of the heap is one that expires first.
use Rattle.std.proofs.Common.{◌≡◌, ◌<◌, length, arith}
use Rattle.std.proofs.lemmas.Grind.{common_steps}
use Rattle.std.proofs.lemmas.List.{get_or_read}
use Rattle.std.proofs.lemmas.Option.{gets}
use Rattle.rb_binary.specs.Layout.{no_entry}
use Rattle.rb_binary.proofs.Contents.{content_of_empty, first_is_least}
use Rattle.rb_binary.proofs.binary_timer.BinaryTimerTimer.least.Goals as goal

pub returns-in_err-entry : goal.returns-in_err-entry
returns-in_err-entry c =
    let timer = c.args.self.now in
    let empty : length timer.heap.items ≡ 0 =
    grind (arith, common_steps, gets, c.in_err-entry.was, c.first.ensures.item) in
    rw c.from_residual.ensures (content_of_empty timer.heap.items timer.places.items timer.agrees empty)

pub returns : goal.returns
returns c =
    let timer = c.args.self.now in
    let some : 0 < length timer.heap.items =
    grind (arith, common_steps, gets, c.in_ok-entry.was, c.first.ensures.item) in
    let item = rw c.deref.ensures.value at c.in_ok-entry.ensures.item in
    let read = get_or_read timer.heap.items 0 c.in_ok-entry.entry.now some item.1 no_entry in
    rw read (first_is_least timer.heap.items timer.places.items timer.agrees timer.ordered some)
