-- A poll takes one element out or none, so the ids that are left stay below the next one.
use Rattle.rb_queue.proofs.Queues.{below_polled}
use Rattle.rb_queue.proofs.delay_queue.DelayQueue.poll.Goals as goal

pub invariant_of-self : goal.invariant_of-self
invariant_of-self g c = below_polled c.remove_due.result c.self.inside.store c.remove_due.new.self c.self.inside.next_id c.self.invariant c.remove_due.ensures.removed c.remove_due.ensures.same
