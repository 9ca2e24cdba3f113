-- The node that is asked is the parent's.
use Rattle.std.proofs.Common.{sym, ap, ◌∙◌}
use Rattle.rb_pairing.specs.declared.node.Node.{Node}
use Rattle.rb_pairing.proofs.Writes.{read_at}
use Rattle.rb_pairing.proofs.nodes.Nodes.is_first.Goals as goal

pub returns : goal.returns
returns c =
    let child = ap (λ (node : Node). node.child)
    (read_at c.args.self.now c.args.parent c.requires.parent _ _ c.self.view_is c.index.ensures) in
    (λ yes. sym child ∙ c.is_above.ensures.0 yes, λ is. c.is_above.ensures.1 (child ∙ is))
