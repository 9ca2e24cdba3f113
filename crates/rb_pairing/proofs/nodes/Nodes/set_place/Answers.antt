-- The node at the slot is written.
use Rattle.std.proofs.Common.{List, sym, subst}
use Rattle.rb_pairing.specs.declared.node.Node.{Node}
use Rattle.rb_pairing.specs.Changes.{SetsPlace}
use Rattle.rb_pairing.proofs.Writes.{changed_at, sets_place}
use Rattle.rb_pairing.proofs.nodes.Nodes.set_place.Goals as goal

pub returns : goal.returns
returns c =
    let nodes = c.args.self.now in
    let slot = c.args.slot in
    let within = c.requires.slot in
    subst (λ (ns : List Node). SetsPlace nodes ns slot c.args.previous c.args.next)
    (sym (changed_at nodes slot within (λ node. record node { next = c.args.next; previous = c.args.previous }) _ _ _ c.self.view_is c.index_mut.ensures.value c.set_place.ensures))
    (sets_place nodes slot within c.args.previous c.args.next)
