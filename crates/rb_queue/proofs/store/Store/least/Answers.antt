-- The timer's least slot has an element of least expiry in the slab; without one the bag is empty.
use Rattle.rb_queue.proofs.Stores.{none_least, shown}
use Rattle.rb_queue.proofs.store.Store.least.Goals as goal

pub returns-in_err-slot : goal.returns-in_err-slot
returns-in_err-slot g c = rw (c.from_residual.ensures, ← c.self.view_is) (none_least _ _ _ c.self.invariant c.in_err-slot.ensures)

pub returns : goal.returns
returns g c =
    rw (c.copied.ensures, c.get.ensures, ← c.self.view_is) (shown _ _ _ c.self.invariant c.in_ok-slot.slot c.in_ok-slot.field-0-1 _ c.in_ok-slot.ensures)
