-- The next id is kept behind those before it.
use Rattle.std.proofs.Common.{get_or, sym}
use Rattle.std.proofs.lemmas.Grind.{get_or_default_zero}
use Rattle.rb_replay.proofs.AttemptIndexes.{given_next}
use Rattle.rb_replay.proofs.attempt_index.AttemptIndex.keep_all_given.Goals as goal

pub loop-id-preserved : goal.loop-id-preserved
loop-id-preserved c =
    given_next c.args.ids.now c.loop-id.id-index _ _ _ _ c.loop-id-test.true
    (sym (get_or_default_zero c.args.ids.now c.loop-id.id-index (get_or c.args.ids.now c.loop-id.id-index 0) c.loop-id-test.true)) c.loop-id.invariant
    c.in_ok-keep_given.ensures
