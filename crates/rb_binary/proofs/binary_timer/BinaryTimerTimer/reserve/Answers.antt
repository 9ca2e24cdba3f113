-- The places stay, with empty slots behind them.
use Rattle.std.proofs.Common.{◌≡◌, take, arith}
use Rattle.std.proofs.lemmas.List.{take_all}
use Rattle.rb_binary.proofs.Contents.{content_of-reserved}
use Rattle.rb_binary.proofs.binary_timer.BinaryTimerTimer.reserve.Goals as goal

pub returns-in_ok-resize-clause-content : goal.returns-in_ok-resize-clause-content
returns-in_ok-resize-clause-content c =
    let places = c.args.self.now.places.items in
    let all : take c.args.wanted places ≡ places = take_all c.args.wanted places (omega arith) in
    rw (c.in_ok-reserve.ensures.items, c.in_ok-resize.ensures.items, all, c.none.ensures)
    (content_of-reserved c.args.self.now.heap.items places _)
