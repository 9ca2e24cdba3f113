-- The ids so far rise and are below `end`, and `least` is the one above them.
use Rattle.rb_queue.proofs.Orders.{InOrderSoFar}
use Rattle.rb_queue.proofs.opening.are_in_order.Given as goal

abbrev pub invariant-loop-element : goal.invariant-loop-element
invariant-loop-element l = InOrderSoFar l.elements l.end l.element-index l.least
