-- In an empty bag all ids are below the next one, which is 0.
use Rattle.rb_queue.proofs.Queues.{below_empty}
use Rattle.rb_queue.proofs.delay_queue.DelayQueue.new.Goals as goal

pub invariant_of-result : goal.invariant_of-result
invariant_of-result g c = rw c.new.ensures (below_empty 0)
