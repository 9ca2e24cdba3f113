-- The room stays, and with each entry that leaves there is one less.
use Rattle.std.proofs.Common.{◌≡◌, length, is_some}
use Rattle.std.specs.Prelude.{count_by}
use Rattle.rb_wheel.proofs.wheel_timer.Wheel.take_each.Given as goal

abbrev pub invariant-loop-slot : goal.invariant-loop-slot
invariant-loop-slot g l = length l.self ≡ length l.initial.self

abbrev pub decreases-loop-slot : goal.decreases-loop-slot
decreases-loop-slot g l = count_by is_some l.self
