-- The slots and the directory are empty, and so is the timer.
use Rattle.std.proofs.Common.{refl}
use Rattle.rb_queue.proofs.Stores.{none_least}
use Rattle.rb_queue.proofs.store.Store.clear.Goals as goal

pub discard_all-requires : goal.discard_all-requires
discard_all-requires g c = (g.T.Timer.content c.self.inside.timer, c.self.invariant)

pub invariant_of-self : goal.invariant_of-self
invariant_of-self g c = rw c.clear.ensures.content c.discard_all.ensures

pub returns : goal.returns
returns g c = none_least _ _ _ c.discard_all.ensures refl
