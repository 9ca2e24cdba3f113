-- The timer's least expiry is that of the bag; without one the bag is empty.
use Rattle.rb_queue.proofs.Stores.{none_least, least_expiry}
use Rattle.rb_queue.proofs.store.Store.least_expiry.Goals as goal

pub returns-in_err-expiry : goal.returns-in_err-expiry
returns-in_err-expiry g c = rw (c.from_residual.ensures, ← c.self.view_is) (none_least _ _ _ c.self.invariant c.in_err-expiry.ensures)

pub returns : goal.returns
returns g c = rw (← c.self.view_is) (least_expiry _ _ _ c.self.invariant c.in_ok-expiry.field-0-0 c.in_ok-expiry.expiry c.in_ok-expiry.ensures)
