-- The queue's own count is that of its bag.
use Rattle.rb_replay.proofs.replayed_queue.ReplayedQueue.size.Goals as goal

pub returns : goal.returns
returns c = rw (← c.self.view_is) (c.size.ensures 0).permitted
