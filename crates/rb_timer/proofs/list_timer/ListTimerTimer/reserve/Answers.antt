-- The row stays, with empty slots behind it.
use Rattle.std.proofs.Common.{◌≡◌, take, arith}
use Rattle.std.proofs.lemmas.List.{take_all}
use Rattle.rb_timer.specs.Slots.{content_of-more}
use Rattle.rb_timer.proofs.list_timer.ListTimerTimer.reserve.Goals as goal

pub returns-in_ok-resize-clause-content : goal.returns-in_ok-resize-clause-content
returns-in_ok-resize-clause-content c =
    let expiries = c.args.self.now.expiries.items in
    let all : take c.args.wanted expiries ≡ expiries = take_all c.args.wanted expiries (omega arith) in
    rw (c.in_ok-resize.ensures.items, all) (content_of-more expiries _)
