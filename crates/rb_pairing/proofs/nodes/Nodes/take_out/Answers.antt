-- The heir is the root where the root is taken out, and otherwise the root stays.
use Rattle.std.proofs.Common.{◌≡◌, ◌<◌, length, None, sym, ap, ◌∙◌, arith}
use Rattle.std.proofs.Math.ListN.{set}
use Rattle.rb_pairing.specs.Nodes.{expiries, with_expiry}
use Rattle.rb_pairing.proofs.Entries.{expiries-written}
use Rattle.rb_pairing.proofs.Expiries.{same_length}
use Rattle.rb_pairing.proofs.LinkTests.{link_is, link_is_not}
use Rattle.rb_pairing.proofs.Removals.{heir_tree, rest_tree}
use Rattle.rb_pairing.proofs.nodes.Nodes.take_out.Goals as goal
use Rattle.rb_pairing.proofs.nodes.Nodes.take_out.Goals.{After-unlink-heir}

-- the slot is still in the room, and the others' expiries stay
module _ (c : After-unlink-heir) where
  low : c.args.slot < length c.unlink-heir.new.self
  low = omega (arith, c.requires.in_room, same_length c.args.self.now c.unlink-heir.new.self c.unlink-heir.ensures.expiries)

  row : expiries (with_expiry c.unlink-heir.new.self c.args.slot None) ≡ set (expiries c.args.self.now) c.args.slot None
  row = expiries-written c.unlink-heir.new.self c.args.slot None low
      ∙ ap (λ row. set row c.args.slot None) c.unlink-heir.ensures.expiries

pub vacate-requires-clause-slot : goal.vacate-requires-clause-slot
vacate-requires-clause-slot c = low (goal.at.vacate-requires-clause-slot c).After-unlink-heir

pub vacate-requires-clause-child : goal.vacate-requires-clause-child
vacate-requires-clause-child c = c.unlink-heir.ensures.none.child

pub returns-then-eq-clause-tree : goal.returns-then-eq-clause-tree
returns-then-eq-clause-tree c =
    rw c.vacate.ensures
    (heir_tree c.args.self.now _ c.args.slot c.args.root _ c.requires.tree c.unlink-heir.ensures
    (low (goal.at.returns-then-eq-clause-tree c).After-unlink-heir) (link_is _ _ (sym c.eq.ensures ∙ c.if-eq.true)))

pub returns-else-eq-clause-tree : goal.returns-else-eq-clause-tree
returns-else-eq-clause-tree c =
    rw c.vacate.ensures
    (rest_tree c.args.self.now _ c.args.slot c.args.root _ c.requires.tree c.unlink-heir.ensures
    (low (goal.at.returns-else-eq-clause-tree c).After-unlink-heir) (link_is_not _ _ (sym c.eq.ensures ∙ c.if-eq.false))
    c.requires.present)

pub returns-then-eq-clause-expiries : goal.returns-then-eq-clause-expiries
returns-then-eq-clause-expiries c =
    rw c.vacate.ensures (row (goal.at.returns-then-eq-clause-expiries c).After-unlink-heir)

pub returns-else-eq-clause-expiries : goal.returns-else-eq-clause-expiries
returns-else-eq-clause-expiries c =
    rw c.vacate.ensures (row (goal.at.returns-else-eq-clause-expiries c).After-unlink-heir)
