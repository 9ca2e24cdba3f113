-- The two neighbours are joined, and what is behind them has a higher rank.
use Rattle.std.proofs.Common.{rules, sym, ◌∙◌, ◌≡◌, length, subst, arith}
use Rattle.std.proofs.Math.Logic.{∥∥₁_elim, ∥∥₁_map}
use Rattle.std.proofs.Props.{props}
use Rattle.rb_pairing.proofs.Expiries.{same_length}
use Rattle.rb_pairing.proofs.Rows.{RankFrom, relinks_none, relinks_more, relinks_join, row_of_child, row_within, row_stays, rank_from, rank_past}
use Rattle.rb_pairing.proofs.nodes.Nodes.join_pairs.Goals as goal

pub pairs-init : goal.pairs-init
pairs-init c = record {
  relinks = relinks_none c.args.self.now c.requires.linked;
  row = ∥∥₁_map c.requires.linked
      (λ forest. record {
        row = row_of_child c.args.self.now c.args.parent c.in_ok-last.last forest (search rules);
        risen = omega arith;
      });
}

pub next-requires : goal.next-requires
next-requires c = ∥∥₁_elim c.pairs.invariant.row (hlevel props) (λ from. row_within _ _ _ from.row)

pub next-requires-in-pairs : goal.next-requires-in-pairs
next-requires-in-pairs c = ∥∥₁_elim c.pairs.invariant.row (hlevel props)
    (λ from. row_within _ _ _
    (row_stays _ _ _ _ _ (sym c.next.ensures ∙ c.in-Some.is) c.join-last.ensures c.args.parent 0 from.row))

pub returns-in_default-clause-row : goal.returns-in_default-clause-row
returns-in_default-clause-row c = ∥∥₁_map c.pairs.invariant.row (λ from. from.row)

pub returns-in_default-next-clause-relinks : goal.returns-in_default-next-clause-relinks
returns-in_default-next-clause-relinks c =
    relinks_more _ _ _ c.pairs.invariant.relinks
    (relinks_join _ _ _ _ _ (sym c.next.ensures ∙ c.in-Some.is) c.join-last.ensures c.pairs.invariant.relinks.linked)

pub returns-in_default-next-clause-row : goal.returns-in_default-next-clause-row
returns-in_default-next-clause-row c =
    ∥∥₁_map c.pairs.invariant.row
    (λ from. row_stays _ _ _ _ _ (sym c.next.ensures ∙ c.in-Some.is) c.join-last.ensures c.args.parent 0 from.row)

pub pairs-preserved : goal.pairs-preserved
pairs-preserved c = record {
  relinks = relinks_more _ _ _ c.pairs.invariant.relinks
      (relinks_join _ _ _ _ _ (sym c.next.ensures ∙ c.in-Some.is) c.join-last.ensures c.pairs.invariant.relinks.linked);
  row = ∥∥₁_map c.pairs.invariant.row
      (rank_from _ _ _ _ _ (sym c.next.ensures ∙ c.in-Some.is) c.join-last.ensures c.args.parent c.pairs.counter c.in-Some-next.next
      (sym c.next-in-pairs.ensures ∙ c.in-Some-next.is));
}

pub returns-clause-row : goal.returns-clause-row
returns-clause-row c = ∥∥₁_map c.pairs.invariant.row (λ from. from.row)

pub returns-clause-last : goal.returns-clause-last
returns-clause-last c =
    let ended : c.pairs.counter ≡ length c.pairs.self =
    omega (arith, same_length c.args.self.now c.pairs.self c.pairs.invariant.relinks.expiries) in
    ∥∥₁_elim c.pairs.invariant.row (hlevel props)
    (λ from. absurd (rank_past c.pairs.self c.args.parent c.pairs.last
    (subst (RankFrom c.pairs.self c.args.parent c.pairs.last) ended from)))
