-- When each slot was looked at, the least found is the content's.
use Rattle.std.proofs.Common.{◌≤◌, length, rules}
use Rattle.rb_timer.proofs.Least.{IsLeastEntry-from_all}
use Rattle.rb_timer.proofs.list_timer.ListTimerTimer.least.Goals as goal

pub returns : goal.returns
returns c =
    let expiries = c.args.self.now.expiries.items in
    let all : length expiries ≤ c.loop-slot.slot = search rules in
    IsLeastEntry-from_all expiries c.loop-slot.slot c.loop-slot.least all c.loop-slot.invariant
