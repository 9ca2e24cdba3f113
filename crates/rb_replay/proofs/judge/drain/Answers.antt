-- Each id is the head's when its turn comes; with fewer than `max` none may be expired at the end.
use Rattle.std.proofs.Common.{◌≢◌, ◌≤◌, ◌<◌, length, get_or, refl, sym, arith}
use Rattle.std.proofs.lemmas.Bool.Decides.{nat_tests}
use Rattle.std.proofs.lemmas.Result.{err_from_is_err_and}
use Rattle.std.proofs.lemmas.Grind.{get_or_default_zero}
use Rattle.rb_replay.proofs.Judgements.{drained_more, drain_fails, drain_last}
use Rattle.rb_replay.proofs.judge.drain.Goals as goal

pub loop-id-init : goal.loop-id-init
loop-id-init c = record { heads = tt; left = refl }

pub loop-id-preserved : goal.loop-id-preserved
loop-id-preserved c =
    drained_more _ _ _ c.args.now c.args.ids.now c.loop-id.id-index _ c.loop-id-test.true
    (sym (get_or_default_zero c.args.ids.now c.loop-id.id-index (get_or c.args.ids.now c.loop-id.id-index 0) c.loop-id-test.true)) c.loop-id.invariant c.in_ok-give.ensures

pub returns-in_err-give : goal.returns-in_err-give
returns-in_err-give c =
    let few : length c.args.ids.now ≤ c.args.max = grind (arith, nat_tests) in
    let p = err_from_is_err_and c.from_residual-in_err-give.result c.from_residual-in_err-give.ensures.1 in
    rw (p.1, p.2)
    (drain_fails _ _ _ c.args.now c.args.max c.args.ids.now c.loop-id.id-index _ _ few c.loop-id-test.true
    (sym (get_or_default_zero c.args.ids.now c.loop-id.id-index (get_or c.args.ids.now c.loop-id.id-index 0) c.loop-id-test.true)) c.loop-id.invariant c.in_err-give.ensures)

pub returns : goal.returns
returns c =
    let few : length c.args.ids.now ≤ c.args.max = grind (arith, nat_tests) in
    let off : length c.args.ids.now ≢ c.args.max = c.if-count-max.false in
    let fewer : length c.args.ids.now < c.args.max = omega arith in
    drain_last _ _ c.args.now c.args.max c.loop-id.id-index c.args.ids.now _ _ few (omega arith) fewer c.loop-id.invariant c.none_expired.ensures c.ensure-2.ensures
