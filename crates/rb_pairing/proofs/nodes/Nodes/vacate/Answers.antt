-- The node at the slot is written.
use Rattle.std.proofs.Common.{None, ap, ◌∙◌}
use Rattle.rb_pairing.specs.declared.node.Node.{Node}
use Rattle.rb_pairing.proofs.Writes.{read_at, changed_at}
use Rattle.rb_pairing.proofs.nodes.Nodes.vacate.Goals as goal

pub vacate-requires : goal.vacate-requires
vacate-requires c =
    ap (λ (node : Node). node.child)
    (read_at c.args.self.now c.args.slot c.requires.slot _ _ c.self.view_is c.index_mut.ensures.value)
    ∙ c.requires.child

pub returns : goal.returns
returns c =
    changed_at c.args.self.now c.args.slot c.requires.slot (λ node. record node { expiry = None }) _ _ _
    c.self.view_is c.index_mut.ensures.value c.vacate.ensures
