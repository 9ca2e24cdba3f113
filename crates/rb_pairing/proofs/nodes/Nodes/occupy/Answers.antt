-- The node at the slot is written.
use Rattle.std.proofs.Common.{Some, ap, ◌∙◌}
use Rattle.rb_pairing.specs.declared.node.Node.{Node}
use Rattle.rb_pairing.proofs.Writes.{read_at, changed_at}
use Rattle.rb_pairing.proofs.nodes.Nodes.occupy.Goals as goal

pub occupy-requires : goal.occupy-requires
occupy-requires c =
    ap (λ (node : Node). node.child)
    (read_at c.args.self.now c.args.slot c.requires.slot _ _ c.self.view_is c.index_mut.ensures.value)
    ∙ c.requires.child

pub returns-clause-put : goal.returns-clause-put
returns-clause-put c =
    changed_at c.args.self.now c.args.slot c.requires.slot (λ node. record node { expiry = Some c.args.expiry }) _ _ _
    c.self.view_is c.index_mut.ensures.value c.occupy.ensures
