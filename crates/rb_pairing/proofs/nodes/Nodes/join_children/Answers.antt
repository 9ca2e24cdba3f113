-- The children are joined in two passes.
use Rattle.std.proofs.Common.{◌≡◌, ap, ◌∙◌, arith}
use Rattle.rb_pairing.specs.Nodes.{next_of}
use Rattle.rb_pairing.proofs.Expiries.{same_length}
use Rattle.rb_pairing.proofs.Rows.{relinks_more}
use Rattle.rb_pairing.proofs.nodes.Nodes.join_children.Goals as goal

pub returns : goal.returns
returns c = record {
  relinks = relinks_more _ _ _ c.in_ok-last.ensures.relinks c.join_back.ensures.relinks;
  child = c.join_back.ensures.only;
  only = λ slot is. let same : slot ≡ c.join_back.result = cc in
      ap (next_of c.join_back.new.self) same ∙ c.join_back.ensures.last;
}

pub join_back-requires-clause-in_room : goal.join_back-requires-clause-in_room
join_back-requires-clause-in_room c =
    omega (arith, c.requires.in_room, same_length c.args.self.now c.join_pairs.new.self c.in_ok-last.ensures.relinks.expiries)
