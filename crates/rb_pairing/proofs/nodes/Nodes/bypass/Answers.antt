-- The slot's own links say which others to write.
use Rattle.std.proofs.Common.{◌<◌, ◌∙◌, is_some, length, sym, ap, arith}
use Rattle.std.proofs.Math.Logic.{∥∥₁_elim}
use Rattle.std.proofs.Props.{props}
use Rattle.rb_pairing.proofs.Expiries.{same_expiry, same_length}
use Rattle.rb_pairing.proofs.Linked.{next_within, previous_within, previous_present}
use Rattle.rb_pairing.proofs.Steps.{bypasses}
use Rattle.rb_pairing.proofs.nodes.Nodes.bypass.Goals as goal

pub set_previous-requires-clause-slot : goal.set_previous-requires-clause-slot
set_previous-requires-clause-slot c other is =
    next_within c.args.self.now c.requires.linked c.args.slot other (sym c.next-next.ensures ∙ is)

pub set_previous-requires-clause-previous : goal.set_previous-requires-clause-previous
set_previous-requires-clause-previous c other is =
    previous_within c.args.self.now c.requires.linked c.args.slot other (sym c.previous-previous.ensures ∙ is)

pub set_link-requires-clause-slot : goal.set_link-requires-clause-slot
set_link-requires-clause-slot c other is =
    let within : other < length c.args.self.now =
    previous_within c.args.self.now c.requires.linked c.args.slot other (sym c.previous-previous.ensures ∙ is) in
    omega (arith, within, same_length c.args.self.now c.set_previous.new.self c.set_previous.ensures.expiries)

pub set_link-requires-clause-present : goal.set_link-requires-clause-present
set_link-requires-clause-present c other is =
    ap is_some (same_expiry c.args.self.now c.set_previous.new.self c.set_previous.ensures.expiries other)
    ∙ previous_present c.args.self.now c.requires.linked c.args.slot other (sym c.previous-previous.ensures ∙ is)

pub set_link-requires-clause-to : goal.set_link-requires-clause-to
set_link-requires-clause-to c other is =
    let within : other < length c.args.self.now =
    next_within c.args.self.now c.requires.linked c.args.slot other (sym c.next-next.ensures ∙ is) in
    omega (arith, within, same_length c.args.self.now c.set_previous.new.self c.set_previous.ensures.expiries)

pub returns : goal.returns
returns c =
    ∥∥₁_elim c.requires.linked (hlevel props)
    (λ forest. bypasses c.args.self.now c.set_previous.new.self c.set_link.new.self c.args.slot
    forest.parent forest.rank forest.is_forest
    (rw (c.next-next.ensures, c.previous-previous.ensures) at c.set_previous.ensures)
    (rw (c.next-next.ensures, c.previous-previous.ensures) at c.set_link.ensures))
