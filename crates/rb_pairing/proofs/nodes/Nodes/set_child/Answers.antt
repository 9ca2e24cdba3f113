-- The node at the slot is written.
use Rattle.std.proofs.Common.{Some, List, sym, subst}
use Rattle.rb_pairing.specs.declared.node.Node.{Node}
use Rattle.rb_pairing.specs.Changes.{SetsChild}
use Rattle.rb_pairing.proofs.Writes.{changed_at, sets_child}
use Rattle.rb_pairing.proofs.nodes.Nodes.set_child.Goals as goal

pub returns : goal.returns
returns c =
    let nodes = c.args.self.now in
    let slot = c.args.slot in
    let within = c.requires.slot in
    subst (λ (ns : List Node). SetsChild nodes ns slot c.args.child)
    (sym (changed_at nodes slot within (λ node. record node { child = Some c.args.child }) _ _ _ c.self.view_is c.index_mut.ensures.value c.set_child.ensures))
    (sets_child nodes slot within c.args.child)
