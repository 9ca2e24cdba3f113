-- The map's values are the queue's elements, in order of their ids and as many as stand.
use Rattle.std.proofs.Common.{ap, ◌∙◌}
use Rattle.rb_queue.specs.Queue.{Queue}
use Rattle.rb_replay.proofs.Ordered.{bag_of_values, values_in_order, values_counted}
use Rattle.rb_replay.proofs.replayed_queue.ReplayedQueue.elements.Goals as goal

pub returns-clause-bag : goal.returns-clause-bag
returns-clause-bag c =
    bag_of_values _ _ c.self.inside.elements c.self.invariant c.new.result (c.new.ensures ∙ c.in_ok-values_of.ensures.values)
    ∙ ap (λ (q : Queue). q.bag) c.self.view_is

pub returns-clause-order : goal.returns-clause-order
returns-clause-order c =
    rw (← c.self.view_is)
    (values_in_order _ _ c.self.inside.elements c.self.invariant c.values_of.ensures.ordered c.new.result (c.new.ensures ∙ c.in_ok-values_of.ensures.values))

pub returns-clause-counted : goal.returns-clause-counted
returns-clause-counted c =
    rw (← c.self.view_is)
    (values_counted _ _ c.self.inside.elements c.self.invariant c.values_of.ensures.ordered c.new.result (c.new.ensures ∙ c.in_ok-values_of.ensures.values))
