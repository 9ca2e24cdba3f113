-- Queue and map are emptied alike, so the map still has the queue's elements.
use Rattle.std.proofs.Common.{sym, subst}
use Rattle.rb_queue.specs.Queue.{Queue}
use Rattle.rb_replay.specs.ReplayedQueue.{HasElements}
use Rattle.rb_replay.proofs.Elements.{has_none}
use Rattle.rb_replay.proofs.replayed_queue.ReplayedQueue.clear.Goals as goal

pub invariant_of-self : goal.invariant_of-self
invariant_of-self c =
    subst (λ (q : Queue). HasElements q.bag q.next_id c.clear-2.new.self) (sym (c.clear.ensures 0).after) (has_none _ _ c.clear-2.ensures.empty)

pub returns : goal.returns
returns c = rw (← c.self.view_is) (c.clear.ensures 0).after
