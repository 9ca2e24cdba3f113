-- The timer's due slot has the head of the bag, and all three forget that one element.
use Rattle.rb_queue.proofs.Stores.{none_due, is_head, bag-remove, sound-remove}
use Rattle.rb_queue.proofs.store.Store.remove_due.Goals as goal

pub returns-in_err-slot-clause-none : goal.returns-in_err-slot-clause-none
returns-in_err-slot-clause-none g c =
    rw (c.from_residual.ensures, ← c.self.view_is) (none_due _ _ _ c.self.invariant c.args.now c.in_err-slot.ensures.due)

pub invariant_of-self-2 : goal.invariant_of-self-2
invariant_of-self-2 g c =
    let timed = rw c.in_ok-slot.ensures.content at c.remove.ensures.content in
    sound-remove c.self.inside.elements c.remove-element.new.self _ _ c.self.inside.directory c.swap_remove.new.self c.in_ok-slot.slot c.remove-element.result
    c.self.invariant c.remove-element.ensures.value c.remove-element.ensures.updates timed c.swap_remove.ensures.updates.0 c.remove-element.ensures.len

pub returns-clause-head : goal.returns-clause-head
returns-clause-head g c =
    rw (← c.self.view_is) (is_head _ _ _ c.self.invariant c.in_ok-slot.slot c.in_ok-slot.field-0-1 c.args.now c.remove-element.result c.in_ok-slot.ensures.due c.remove-element.ensures.value)

pub returns-clause-removed : goal.returns-clause-removed
returns-clause-removed g c =
    let timed = rw c.in_ok-slot.ensures.content at c.remove.ensures.content in
    rw (← c.self.view_is) (bag-remove c.self.inside.elements c.remove-element.new.self _ _ c.self.inside.directory c.swap_remove.new.self c.in_ok-slot.slot c.remove-element.result
    c.self.invariant c.remove-element.ensures.value c.remove-element.ensures.updates timed c.swap_remove.ensures.updates.0)
