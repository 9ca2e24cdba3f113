-- Queue and map lose the same id, whether it stood or not.
use Rattle.std.proofs.Common.{sym, ap, subst}
use Rattle.rb_queue.specs.Queue.{Queue}
use Rattle.rb_replay.specs.ReplayedQueue.{HasElements}
use Rattle.rb_replay.proofs.Elements.{has_removed, removed_anyway}
use Rattle.rb_replay.proofs.replayed_queue.ReplayedQueue.remove.Goals as goal

pub invariant_of-self : goal.invariant_of-self
invariant_of-self c =
    let after = removed_anyway _ _ c.args.id c.remove.result (c.remove.ensures 0) in
    subst (λ (q : Queue). HasElements q.bag q.next_id c.remove-2.new.self) (sym after)
    (has_removed _ _ _ _ c.args.id c.self.invariant c.remove-2.ensures.entries c.remove-2.ensures.updates.0)

pub returns-clause-bag : goal.returns-clause-bag
returns-clause-bag c = rw (← c.self.view_is) (ap (λ (q : Queue). q.bag) (removed_anyway _ _ c.args.id c.remove.result (c.remove.ensures 0)))

pub returns-clause-next_id : goal.returns-clause-next_id
returns-clause-next_id c = rw (← c.self.view_is) (ap (λ (q : Queue). q.next_id) (removed_anyway _ _ c.args.id c.remove.result (c.remove.ensures 0)))
