-- What is before an entry is another.
use Rattle.std.proofs.Common.{refl, sym, ◌∙◌}
use Rattle.std.proofs.Math.Logic.{∥∥₁_elim}
use Rattle.std.proofs.Props.{props}
use Rattle.rb_pairing.proofs.LinkTests.{link_is_not}
use Rattle.rb_pairing.proofs.Linked.{previous_present}
use Rattle.rb_pairing.proofs.Steps.{not_before_itself}
use Rattle.rb_pairing.proofs.nodes.Nodes.newest_but.Goals as goal

pub returns-then-eq-clause-entry : goal.returns-then-eq-clause-entry
returns-then-eq-clause-entry c other is =
    previous_present c.args.self.now c.requires.linked c.args.slot other (sym c.previous.ensures ∙ is)

pub returns-then-eq-clause-apart : goal.returns-then-eq-clause-apart
returns-then-eq-clause-apart c is =
    ∥∥₁_elim c.requires.linked (hlevel props)
    (λ forest. not_before_itself c.args.self.now forest.parent forest.rank forest.is_forest c.args.slot c.args.slot
    (sym c.previous.ensures ∙ is) refl)

pub returns-else-eq-clause-apart : goal.returns-else-eq-clause-apart
returns-else-eq-clause-apart c = link_is_not _ _ (sym c.eq.ensures ∙ c.if-eq.false)
