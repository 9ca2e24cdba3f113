-- What was first under the parent comes behind the slot.
use Rattle.std.proofs.Common.{◌≡◌, ◌<◌, ◌∙◌, is_some, length, sym, ap, arith}
use Rattle.rb_pairing.proofs.Expiries.{same_expiry, same_length}
use Rattle.rb_pairing.proofs.InRoom.{in_room-expiry}
use Rattle.rb_pairing.proofs.Steps.{adopts}
use Rattle.rb_pairing.proofs.nodes.Nodes.adopt.Goals as goal

pub child-first-requires : goal.child-first-requires
child-first-requires c = in_room-expiry _ _ c.requires.present

pub set_previous-requires-clause-slot : goal.set_previous-requires-clause-slot
set_previous-requires-clause-slot c other is = c.requires.first other (sym c.child-first.ensures ∙ is)

pub set_place-requires-clause-previous : goal.set_place-requires-clause-previous
set_place-requires-clause-previous c other is =
    let within : c.args.parent < length c.args.self.now = in_room-expiry _ _ c.requires.present in
    let long = same_length c.args.self.now c.set_previous.new.self c.set_previous.ensures.expiries in
    let same : c.args.parent ≡ other = cc in
    omega (arith, within, long, same)

pub set_place-requires-clause-next : goal.set_place-requires-clause-next
set_place-requires-clause-next c other is =
    let within : other < length c.args.self.now = c.requires.first other (sym c.child-first.ensures ∙ is) in
    omega (arith, within, same_length c.args.self.now c.set_previous.new.self c.set_previous.ensures.expiries)

pub set_place-requires-clause-slot : goal.set_place-requires-clause-slot
set_place-requires-clause-slot c =
    omega (arith, c.requires.in_room, same_length c.args.self.now c.set_previous.new.self c.set_previous.ensures.expiries)

pub set_child-requires-clause-slot : goal.set_child-requires-clause-slot
set_child-requires-clause-slot c =
    let within : c.args.parent < length c.args.self.now = in_room-expiry _ _ c.requires.present in
    omega (
      arith,
      within,
      same_length c.args.self.now c.set_place.new.self (c.set_place.ensures.expiries ∙ c.set_previous.ensures.expiries),
    )

pub set_child-requires-clause-child : goal.set_child-requires-clause-child
set_child-requires-clause-child c =
    omega (
      arith,
      c.requires.in_room,
      same_length c.args.self.now c.set_place.new.self (c.set_place.ensures.expiries ∙ c.set_previous.ensures.expiries),
    )

pub set_child-requires-clause-present : goal.set_child-requires-clause-present
set_child-requires-clause-present c =
    ap is_some (same_expiry c.args.self.now c.set_place.new.self
    (c.set_place.ensures.expiries ∙ c.set_previous.ensures.expiries) c.args.parent)
    ∙ c.requires.present

pub returns : goal.returns
returns c =
    adopts c.args.self.now c.set_previous.new.self c.set_place.new.self c.set_child.new.self c.args.parent
    c.args.slot c.requires.apart
    (rw c.child-first.ensures at c.set_previous.ensures)
    (rw c.child-first.ensures at c.set_place.ensures)
    c.set_child.ensures
