-- The entry leaves the early timer and its cell, and the content.
use Rattle.std.proofs.Common.{◌∙◌, None, is_some, set, sym, ap}
use Rattle.rb_timer.specs.Slots.{get-content_of, in_range_of_content, content_of, content_of-remove}
use Rattle.rb_wheel.specs.Lists.{Slots, slot_expiry}
use Rattle.rb_wheel.proofs.Entries.{some_within, left_stand, IsWheel-left}
use Rattle.rb_wheel.proofs.wheel_timer.WheelAnyTimer.remove.Goals as goal

pub vacate-expiry-requires : goal.vacate-expiry-requires
vacate-expiry-requires g c =
    ap is_some (ap (λ es. slot_expiry es c.args.slot) c.self.view_is ∙ sym (get-content_of c.args.self.now c.args.slot)) ∙ c.requires

pub first_without-self-inside-requires-clause-stand : goal.first_without-self-inside-requires-clause-stand
first_without-self-inside-requires-clause-stand g c =
    let wheel = c.self.inside in
    left_stand wheel.lists.expiries wheel.lists.cells _ _ wheel.waiting wheel.base wheel.len _ c.self.invariant c.args.slot
    (some_within wheel.lists.expiries c.args.slot c.vacate-expiry.result c.vacate-expiry.ensures.value)
    c.vacate-expiry.result c.vacate-expiry.ensures.value
    c.vacate-expiry.new.self c.leave_cell.new.lists (g.E.Timer.content c.take_out.new.early) c.leave_cell.new.waiting
    c.vacate-expiry.ensures.left c.leave_cell.ensures.expiries c.leave_cell.ensures.room c.leave_cell.ensures.here c.leave_cell.ensures.others
    c.take_out.ensures.here c.take_out.ensures.others c.leave_cell.ensures.waits

pub invariant_of-self : goal.invariant_of-self
invariant_of-self g c =
    let wheel = c.self.inside in
    let now = c.first_without-self-inside in
    IsWheel-left wheel.lists.expiries wheel.lists.cells _ _ wheel.waiting wheel.base wheel.len _ c.self.invariant c.args.slot
    (some_within wheel.lists.expiries c.args.slot c.vacate-expiry.result c.vacate-expiry.ensures.value)
    c.vacate-expiry.result c.vacate-expiry.ensures.value
    c.vacate-expiry.new.self c.leave_cell.new.lists (g.E.Timer.content c.take_out.new.early) c.leave_cell.new.waiting
    c.vacate-expiry.ensures.left c.leave_cell.ensures.expiries c.leave_cell.ensures.room c.leave_cell.ensures.here c.leave_cell.ensures.others
    c.take_out.ensures.here c.take_out.ensures.others c.leave_cell.ensures.waits
    (g.E.Timer.room now.new.early) (g.E.Timer.content now.new.early) now.new.waiting now.result (now.ensures.room ∙ c.take_out.ensures.room) now.ensures.stand now.ensures.first

pub returns-clause-value : goal.returns-clause-value
returns-clause-value g c =
    get-content_of c.args.self.now c.args.slot ∙ ap (λ es. slot_expiry es c.args.slot) (sym c.self.view_is) ∙ c.vacate-expiry.ensures.value

pub returns-clause-content : goal.returns-clause-content
returns-clause-content g c =
    ap content_of (c.leave_cell.ensures.expiries ∙ ap (λ (s : Slots). s.expiries) c.vacate-expiry.ensures.left ∙ ap (λ es. set es c.args.slot None) c.self.view_is)
    ∙ content_of-remove c.args.self.now c.args.slot (in_range_of_content c.args.self.now c.args.slot c.requires)
