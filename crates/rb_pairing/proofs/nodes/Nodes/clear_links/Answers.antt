-- The node at the slot is written.
use Rattle.std.proofs.Common.{None, is_some, List, sym, subst, ap, ◌∙◌}
use Rattle.rb_pairing.specs.declared.node.Node.{Node}
use Rattle.rb_pairing.specs.Changes.{ClearsLinks}
use Rattle.rb_pairing.proofs.Writes.{read_at, changed_at, clears_links}
use Rattle.rb_pairing.proofs.nodes.Nodes.clear_links.Goals as goal

pub clear_links-requires : goal.clear_links-requires
clear_links-requires c =
    ap (λ (node : Node). is_some node.expiry)
    (read_at c.args.self.now c.args.slot c.requires.slot _ _ c.self.view_is c.index_mut.ensures.value)
    ∙ c.requires.present

pub returns : goal.returns
returns c =
    let nodes = c.args.self.now in
    let slot = c.args.slot in
    let within = c.requires.slot in
    subst (λ (ns : List Node). ClearsLinks nodes ns slot)
    (sym (changed_at nodes slot within (λ node. record node { child = None; next = None; previous = None }) _ _ _ c.self.view_is c.index_mut.ensures.value c.clear_links.ensures))
    (clears_links nodes slot within)
