-- The slot's own links say which others to write.
use Rattle.std.proofs.Common.{◌<◌, ◌∙◌, is_some, length, sym, ap, arith}
use Rattle.std.proofs.Math.Logic.{∥∥₁_elim}
use Rattle.std.proofs.Props.{props}
use Rattle.rb_pairing.proofs.Expiries.{same_expiry, same_length}
use Rattle.rb_pairing.proofs.InRoom.{in_room-child}
use Rattle.rb_pairing.proofs.Linked.{child_within, next_within, previous_within, previous_present, parent_present}
use Rattle.rb_pairing.proofs.Steps.{replaces}
use Rattle.rb_pairing.proofs.nodes.Nodes.replace.Goals as goal

pub next-next-requires : goal.next-next-requires
next-next-requires c = in_room-child c.args.self.now c.args.slot c.args.by c.requires.child

pub set_previous-requires-clause-slot : goal.set_previous-requires-clause-slot
set_previous-requires-clause-slot c other is =
    next_within c.args.self.now c.requires.linked c.args.slot other (sym c.next-next.ensures ∙ is)

pub set_previous-requires-clause-previous : goal.set_previous-requires-clause-previous
set_previous-requires-clause-previous c other is =
    child_within c.args.self.now c.requires.linked c.args.slot other (c.requires.child ∙ is)

pub set_link-requires-clause-slot : goal.set_link-requires-clause-slot
set_link-requires-clause-slot c other is =
    let within : other < length c.args.self.now =
    previous_within c.args.self.now c.requires.linked c.args.slot other (sym c.previous-previous.ensures ∙ is) in
    omega (arith, within, same_length c.args.self.now c.set_previous.new.self (c.set_previous.ensures.expiries))

pub set_link-requires-clause-present : goal.set_link-requires-clause-present
set_link-requires-clause-present c other is =
    ap is_some (same_expiry c.args.self.now c.set_previous.new.self c.set_previous.ensures.expiries other)
    ∙ previous_present c.args.self.now c.requires.linked c.args.slot other (sym c.previous-previous.ensures ∙ is)

pub set_link-requires-clause-to : goal.set_link-requires-clause-to
set_link-requires-clause-to c other is =
    let within : other < length c.args.self.now =
    child_within c.args.self.now c.requires.linked c.args.slot other (c.requires.child ∙ is) in
    omega (arith, within, same_length c.args.self.now c.set_previous.new.self (c.set_previous.ensures.expiries))

pub set_place-requires-clause-slot : goal.set_place-requires-clause-slot
set_place-requires-clause-slot c =
    let within : c.args.by < length c.args.self.now =
    child_within c.args.self.now c.requires.linked c.args.slot c.args.by c.requires.child in
    omega (arith, within, same_length c.args.self.now c.set_link.new.self (c.set_link.ensures.expiries ∙ c.set_previous.ensures.expiries))

pub set_place-requires-clause-previous : goal.set_place-requires-clause-previous
set_place-requires-clause-previous c other is =
    let within : other < length c.args.self.now =
    previous_within c.args.self.now c.requires.linked c.args.slot other (sym c.previous-previous.ensures ∙ is) in
    omega (arith, within, same_length c.args.self.now c.set_link.new.self (c.set_link.ensures.expiries ∙ c.set_previous.ensures.expiries))

pub set_place-requires-clause-next : goal.set_place-requires-clause-next
set_place-requires-clause-next c other is =
    let within : other < length c.args.self.now =
    next_within c.args.self.now c.requires.linked c.args.slot other (sym c.next-next.ensures ∙ is) in
    omega (arith, within, same_length c.args.self.now c.set_link.new.self (c.set_link.ensures.expiries ∙ c.set_previous.ensures.expiries))

pub clear_links-requires-clause-slot : goal.clear_links-requires-clause-slot
clear_links-requires-clause-slot c =
    let within : c.args.slot < length c.args.self.now = in_room-child c.args.self.now c.args.slot c.args.by c.requires.child in
    omega (
      arith,
      within,
      same_length c.args.self.now c.set_place.new.self
          (c.set_place.ensures.expiries ∙ c.set_link.ensures.expiries ∙ c.set_previous.ensures.expiries),
    )

pub clear_links-requires-clause-present : goal.clear_links-requires-clause-present
clear_links-requires-clause-present c =
    ap is_some (same_expiry c.args.self.now c.set_place.new.self
    (c.set_place.ensures.expiries ∙ c.set_link.ensures.expiries ∙ c.set_previous.ensures.expiries) c.args.slot)
    ∙ parent_present c.args.self.now c.requires.linked c.args.slot c.args.by c.requires.child

pub returns : goal.returns
returns c =
    ∥∥₁_elim c.requires.linked (hlevel props)
    (λ forest. replaces c.args.self.now c.set_previous.new.self c.set_link.new.self c.set_place.new.self
    c.clear_links.new.self c.args.slot c.args.by forest.parent forest.rank forest.is_forest c.requires.child
    (rw c.next-next.ensures at c.set_previous.ensures)
    (rw c.previous-previous.ensures at c.set_link.ensures)
    (rw (c.next-next.ensures, c.previous-previous.ensures) at c.set_place.ensures)
    c.clear_links.ensures)
