-- A row of none has no entry.
use Rattle.std.proofs.Common.{length, ap, ◌∙◌}
use Rattle.rb_timer.specs.Slots.{content_of, content_of-none}
use Rattle.rb_wheel.proofs.wheel_timer.WheelAnyTimer.clear.Goals as goal

pub returns-else-clears_one_by_one-clause-content : goal.returns-else-clears_one_by_one-clause-content
returns-else-clears_one_by_one-clause-content g c =
    ap content_of c.take_all.ensures ∙ content_of-none (length c.args.self.now)
