-- A first attempt has its origin as id, so the mark at that place tells whether it was given first.
use Rattle.std.proofs.Common.{sym, ◌∙◌}
use Rattle.rb_replay.proofs.AttemptIndexes.{begun_at}
use Rattle.rb_replay.proofs.attempt_index.AttemptIndex.first_begun.Goals as goal

pub returns : goal.returns
returns c =
    c.then_some.ensures
    ∙ sym (begun_at c.args.self.now c.args.attempt c.in_ok-place_of.field-0 c.index-offer.result.now c.if-attempt-ne1.false c.in_ok-place_of.ensures.some c.index-offer.ensures)
