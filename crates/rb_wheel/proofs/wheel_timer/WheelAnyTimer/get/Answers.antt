-- The content has at a slot what the row has there.
use Rattle.std.proofs.Common.{◌∙◌, ap, sym}
use Rattle.rb_timer.specs.Slots.{get-content_of}
use Rattle.rb_wheel.specs.Lists.{slot_expiry}
use Rattle.rb_wheel.proofs.wheel_timer.WheelAnyTimer.get.Goals as goal

pub returns : goal.returns
returns g c =
    c.expiry.ensures ∙ ap (λ es. slot_expiry es c.args.slot) c.self.view_is ∙ sym (get-content_of c.args.self.now c.args.slot)
