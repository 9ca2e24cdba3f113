-- The earlier one of the least in the early timer and the first.
use Rattle.rb_wheel.proofs.LeastEntries.{least_both, least_first}
use Rattle.rb_wheel.proofs.wheel_timer.WheelAnyTimer.least.Goals as goal

pub returns-in-Some : goal.returns-in-Some
returns-in-Some g c =
    let wheel = c.self.inside in
    least_both wheel.lists.expiries c.args.self.now wheel.lists.cells _ _ wheel.waiting wheel.base wheel.len _ c.self.invariant c.self.view_is
    c.in-Some.entry c.earlier_of.result c.in-Some.ensures c.earlier_of.ensures.no_later c.earlier_of.ensures.no_worse c.earlier_of.ensures.either

pub returns-in-None : goal.returns-in-None
returns-in-None g c =
    let wheel = c.self.inside in
    least_first wheel.lists.expiries c.args.self.now wheel.lists.cells _ _ wheel.waiting wheel.base wheel.len _ c.self.invariant c.self.view_is
    c.in-None.ensures
