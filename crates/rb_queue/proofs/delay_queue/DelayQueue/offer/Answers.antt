-- The new element has the next id, which is raised, so all ids stay below it.
use Rattle.rb_queue.proofs.Queues.{below_insert}
use Rattle.rb_queue.proofs.delay_queue.DelayQueue.offer.Goals as goal

pub invariant_of-self-2 : goal.invariant_of-self-2
invariant_of-self-2 g c = rw c.in_ok-insert.ensures.ok (below_insert c.self.inside.store c.self.inside.next_id c.element-element.result c.self.invariant c.element-element.ensures.id)
