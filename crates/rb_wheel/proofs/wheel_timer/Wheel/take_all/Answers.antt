-- Rows of none have no entry.
use Rattle.rb_wheel.proofs.Entries.{IsWheel-none}
use Rattle.rb_wheel.proofs.wheel_timer.Wheel.take_all.Goals as goal

pub invariant_of-self : goal.invariant_of-self
invariant_of-self g c =
    let wheel = c.self.inside in
    IsWheel-none wheel.lists.expiries c.clear.new.self.expiries wheel.lists.cells c.clear.new.self.cells _ _ _ _ wheel.waiting _ wheel.base wheel.len _
    c.clear.ensures.expiries c.clear.ensures.cells c.clear-2.ensures.content c.clear-2.ensures.room c.self.invariant
