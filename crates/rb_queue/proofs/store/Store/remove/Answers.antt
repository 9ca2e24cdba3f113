-- The directory's slot for the id has the element of that id, so all three forget the same one.
use Rattle.std.proofs.Common.{sym}
use Rattle.rb_queue.proofs.Bags.{remove_absent}
use Rattle.rb_queue.proofs.Stores.{lying, unfiled, filed_expiry, filed_id, updated_by, bag-remove, sound-remove}
use Rattle.rb_queue.proofs.store.Store.remove.Goals as goal

pub returns-in_err-slot-clause-element : goal.returns-in_err-slot-clause-element
returns-in_err-slot-clause-element g c =
    rw (c.from_residual.ensures, ← c.self.view_is) (sym (unfiled _ _ _ c.self.invariant c.args.id (sym c.in_err-slot.ensures.value)))

pub returns-in_err-slot-clause-removed : goal.returns-in_err-slot-clause-removed
returns-in_err-slot-clause-removed g c =
    rw (← c.self.view_is) (sym (remove_absent _ c.args.id (unfiled _ _ _ c.self.invariant c.args.id (sym c.in_err-slot.ensures.value))))

pub remove-requires : goal.remove-requires
remove-requires g c = filed_expiry _ _ _ c.self.invariant c.args.id c.in_ok-slot.slot (sym c.in_ok-slot.ensures.value)

pub invariant_of-self-2 : goal.invariant_of-self-2
invariant_of-self-2 g c =
    let named = filed_id _ _ _ c.self.invariant c.args.id c.in_ok-slot.slot c.remove-2.result (sym c.in_ok-slot.ensures.value) c.remove-2.ensures.value in
    sound-remove c.self.inside.elements c.remove-2.new.self _ _ c.self.inside.directory c.swap_remove.new.self c.in_ok-slot.slot c.remove-2.result
    c.self.invariant c.remove-2.ensures.value c.remove-2.ensures.updates c.remove.ensures.content
    (updated_by c.self.inside.directory c.swap_remove.new.self c.args.id c.remove-2.result.id _ named c.in_ok-slot.ensures.updates.0) c.remove-2.ensures.len

pub returns-clause-element : goal.returns-clause-element
returns-clause-element g c =
    let named = filed_id _ _ _ c.self.invariant c.args.id c.in_ok-slot.slot c.remove-2.result (sym c.in_ok-slot.ensures.value) c.remove-2.ensures.value in
    rw (← c.self.view_is, ← named) (sym ((lying _ _ _ c.self.invariant).each c.in_ok-slot.slot c.remove-2.result c.remove-2.ensures.value))

pub returns-clause-removed : goal.returns-clause-removed
returns-clause-removed g c =
    let named = filed_id _ _ _ c.self.invariant c.args.id c.in_ok-slot.slot c.remove-2.result (sym c.in_ok-slot.ensures.value) c.remove-2.ensures.value in
    rw (← c.self.view_is, ← named) (bag-remove c.self.inside.elements c.remove-2.new.self _ _ c.self.inside.directory c.swap_remove.new.self c.in_ok-slot.slot c.remove-2.result
    c.self.invariant c.remove-2.ensures.value c.remove-2.ensures.updates c.remove.ensures.content
    (updated_by c.self.inside.directory c.swap_remove.new.self c.args.id c.remove-2.result.id _ named c.in_ok-slot.ensures.updates.0))
