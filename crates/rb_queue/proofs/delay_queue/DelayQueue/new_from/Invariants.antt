-- The elements so far stand in the store.
use Rattle.std.proofs.Common.{◌≡◌, take}
use Rattle.rb_queue.specs.Bag.{bag_from}
use Rattle.rb_queue.proofs.delay_queue.DelayQueue.new_from.Given as goal

abbrev pub invariant-loop-element : goal.invariant-loop-element
invariant-loop-element g l = l.store ≡ bag_from (take l.element-index l.element-items)
