-- The last two neighbours are joined, and the one that stays has a lower rank.
use Rattle.std.proofs.Common.{◌≡◌, ◌∙◌, Some, is_some, ap, sym, arith}
use Rattle.std.proofs.Math.Logic.{∥∥₁_elim, ∥∥₁_map}
use Rattle.std.proofs.Props.{props}
use Rattle.rb_pairing.specs.Nodes.{next_of}
use Rattle.rb_pairing.proofs.Expiries.{same_length}
use Rattle.rb_pairing.proofs.Rows.{relinks_none, relinks_more, relinks_join, next_join, row_within, rank_within, rank_to, neighbour}
use Rattle.rb_pairing.proofs.nodes.Nodes.join_back.Goals as goal
use Rattle.rb_pairing.proofs.nodes.Nodes.join_back.Goals.{After-unwrap-left}

pub back-init : goal.back-init
back-init c = record {
  relinks = relinks_none c.args.self.now (∥∥₁_map c.requires.row (λ row. row.forest));
  row = ∥∥₁_map c.requires.row
      (λ row. let within = rank_within _ _ _ row in record { row = row; sunk = omega arith });
  last = c.requires.last;
}

pub is_first-requires-clause-slot : goal.is_first-requires-clause-slot
is_first-requires-clause-slot c = ∥∥₁_elim c.back.invariant.row (hlevel props) (λ to. row_within _ _ _ to.row)

pub previous-requires : goal.previous-requires
previous-requires c = ∥∥₁_elim c.back.invariant.row (hlevel props) (λ to. row_within _ _ _ to.row)

pub unwrap-left-requires : goal.unwrap-left-requires
unwrap-left-requires c = ∥∥₁_elim c.back.invariant.row (hlevel props)
    (λ to. ap is_some c.previous.ensures ∙ to.row.in_row)

-- what is before the last entry is followed by it
neighbours : (c : After-unwrap-left) → next_of c.back.self c.unwrap-left.result ≡ Some c.back.last
neighbours c =
    ∥∥₁_elim c.back.invariant.row (hlevel props)
    (λ to. neighbour c.back.self c.args.parent c.back.last to.row c.unwrap-left.result
    (sym c.previous.ensures ∙ c.unwrap-left.ensures)
    (λ is. let found = c.is_first.ensures.1 is in cc))

pub join-last-requires-clause-neighbours : goal.join-last-requires-clause-neighbours
join-last-requires-clause-neighbours c = neighbours (goal.at.join-last-requires-clause-neighbours c).After-unwrap-left

pub back-preserved : goal.back-preserved
back-preserved c =
    let neighbours = neighbours (goal.at.back-preserved c).After-unwrap-left in
    let linked = c.back.invariant.relinks.linked in
    record {
      relinks = relinks_more _ _ _ c.back.invariant.relinks
          (relinks_join _ _ _ _ _ neighbours c.join-last.ensures linked);
      row = ∥∥₁_map c.back.invariant.row
          (rank_to _ _ _ _ _ neighbours c.join-last.ensures c.args.parent c.back.counter);
      last = next_join _ _ _ _ _ neighbours c.join-last.ensures linked ∙ c.back.invariant.last;
    }

pub returns-clause-only : goal.returns-clause-only
returns-clause-only c =
    ∥∥₁_elim c.back.invariant.row (hlevel props) (λ to. let sunk = to.sunk in absurd (omega (arith, sunk, same_length c.args.self.now c.back.self c.back.invariant.relinks.expiries)))

pub is_first-requires-clause-parent : goal.is_first-requires-clause-parent
is_first-requires-clause-parent c =
    omega (arith, c.requires.in_room, same_length c.args.self.now c.back.self c.back.invariant.relinks.expiries)
