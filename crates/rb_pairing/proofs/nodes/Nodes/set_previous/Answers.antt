-- The node at the slot is written, if there is one.
use Rattle.std.proofs.Common.{List, sym, subst}
use Rattle.rb_pairing.specs.declared.node.Node.{Node}
use Rattle.rb_pairing.specs.Changes.{SetsPrevious}
use Rattle.rb_pairing.proofs.Writes.{changed_at, sets_previous}
use Rattle.rb_pairing.proofs.nodes.Nodes.set_previous.Goals as goal

pub returns-in-Some : goal.returns-in-Some
returns-in-Some c =
    let nodes = c.args.self.now in
    let slot = c.in-Some.slot in
    let within = c.requires.slot c.in-Some.slot c.in-Some.is in
    subst (λ (ns : List Node). SetsPrevious nodes ns c.args.slot c.args.previous)
    (sym (changed_at nodes slot within (λ node. record node { previous = c.args.previous }) _ _ _ c.self.view_is c.index_mut.ensures.value c.set_previous.ensures))
    (sets_previous nodes slot within c.args.slot c.args.previous c.in-Some.is)
