-- A removal leaves the ids below the next one, and has found just what the bag had under the id.
use Rattle.rb_queue.proofs.Queues.{below_remove, removes}
use Rattle.rb_queue.proofs.delay_queue.DelayQueue.remove.Goals as goal

pub invariant_of-self : goal.invariant_of-self
invariant_of-self g c = rw c.remove.ensures.removed (below_remove _ _ c.args.id c.self.invariant)

pub returns : goal.returns
returns g c = rw (← c.self.view_is) (removes (record { bag = c.self.inside.store; next_id = c.self.inside.next_id }) c.args.id c.remove.result c.remove.new.self c.is_some.result c.remove.ensures.element c.remove.ensures.removed c.is_some.ensures)
