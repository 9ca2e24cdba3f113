-- Each join leaves one rank more above the row's last entry, so the joins end within the room.
use Rattle.std.proofs.Common.{◌≡◌, None}
use Rattle.rb_pairing.specs.Nodes.{next_of}
use Rattle.rb_pairing.specs.Changes.{Relinks}
use Rattle.rb_pairing.proofs.Rows.{RankTo}
use Rattle.rb_pairing.proofs.nodes.Nodes.join_back.Given as goal

abbrev pub invariant-back : goal.invariant-back
invariant-back l = record {
  relinks : Relinks l.initial.self l.self;
  row : ∥ RankTo l.self l.parent l.last l.counter ∥₁;
  last : next_of l.self l.last ≡ None;
}
