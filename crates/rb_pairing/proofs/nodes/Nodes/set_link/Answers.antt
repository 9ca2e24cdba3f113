-- The link that is replaced is the one that the test finds.
use Rattle.std.proofs.Common.{List, sym, subst}
use Rattle.rb_pairing.specs.declared.node.Node.{Node}
use Rattle.rb_pairing.specs.Changes.{SetsLink}
use Rattle.rb_pairing.proofs.Writes.{changed_at, sets_link_child, sets_link_next}
use Rattle.rb_pairing.proofs.nodes.Nodes.set_link.Goals as goal

pub returns-then-is_first : goal.returns-then-is_first
returns-then-is_first c =
    let within = c.requires.slot c.in-Some.slot c.in-Some.is in
    subst (λ (ns : List Node). SetsLink c.args.self.now ns c.args.slot c.args.from c.args.to)
    (sym (changed_at c.args.self.now c.in-Some.slot within (λ node. record node { child = c.args.to }) _ _ _
    c.self.view_is c.index_mut.ensures.value c.set_child.ensures))
    (sets_link_child c.args.self.now c.in-Some.slot within c.args.slot c.args.from c.args.to c.in-Some.is
    (c.is_first.ensures.0 c.if-is_first.true))

pub returns-else-is_first : goal.returns-else-is_first
returns-else-is_first c =
    let within = c.requires.slot c.in-Some.slot c.in-Some.is in
    subst (λ (ns : List Node). SetsLink c.args.self.now ns c.args.slot c.args.from c.args.to)
    (sym (changed_at c.args.self.now c.in-Some.slot within (λ node. record node { next = c.args.to }) _ _ _
    c.self.view_is c.index_mut-else-is_first.ensures.value c.set_next.ensures))
    (sets_link_next c.args.self.now c.in-Some.slot within c.args.slot c.args.from c.args.to c.in-Some.is
    (λ is. let found = c.is_first.ensures.1 is in cc))
