-- Each entry that leaves is one less.
use Rattle.rb_wheel.proofs.Entries.{count-less}
use Rattle.rb_wheel.proofs.wheel_timer.Wheel.take_each.Goals as goal

pub loop-slot-smaller : goal.loop-slot-smaller
loop-slot-smaller g c =
    count-less c.loop-slot.self c.remove.new.self c.in-Some.slot c.remove.result c.remove.ensures.value c.remove.ensures.content
