-- The entries are counted.
use Rattle.std.proofs.Common.{◌∙◌, ap, sym}
use Rattle.std.specs.FinMap as map
use Rattle.rb_timer.specs.Slots.{content_of, len-content_of}
use Rattle.rb_wheel.proofs.wheel_timer.WheelAnyTimer.len.Goals as goal

pub returns : goal.returns
returns g c =
    c.self.invariant.counted ∙ sym (len-content_of c.self.inside.lists.expiries)
    ∙ ap (λ expiries. map.len (content_of expiries)) c.self.view_is
