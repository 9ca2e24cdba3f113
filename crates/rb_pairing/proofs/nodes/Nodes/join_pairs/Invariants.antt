-- The entry that was reached has a rank for each round, so the row ends within the room.
use Rattle.rb_pairing.specs.Changes.{Relinks}
use Rattle.rb_pairing.proofs.Rows.{RankFrom}
use Rattle.rb_pairing.proofs.nodes.Nodes.join_pairs.Given as goal

abbrev pub invariant-pairs : goal.invariant-pairs
invariant-pairs l = record {
  relinks : Relinks l.initial.self l.self;
  row : ∥ RankFrom l.self l.parent l.last l.counter ∥₁;
}
