-- In an empty bag all ids are below the next one.
use Rattle.rb_queue.proofs.Queues.{below_empty}
use Rattle.rb_queue.proofs.delay_queue.DelayQueue.clear.Goals as goal

pub invariant_of-self : goal.invariant_of-self
invariant_of-self g c = rw c.clear.ensures (below_empty _)
