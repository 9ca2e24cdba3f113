-- One line more keeps one element more, and the first that keeps none is the opening's fault.
use Rattle.std.proofs.Common.{arith}
use Rattle.rb_history.proofs.KeepLines.{kept_more, kept_all, keeping_ends, keeping_stops}
use Rattle.rb_history.proofs.read_keeps.read_keeps.Goals as goal

pub returns-in_default-clause-err : goal.returns-in_default-clause-err
returns-in_default-clause-err c =
    rw c.at.ensures
    (keeping_ends c.args.version c.args.told.next_id c.args.told.count c.args.text.now c.loop-place.kept.items c.loop-place.rest.now c.loop-place.least c.loop-place.place
    c.loop-place.invariant c.loop-place-test.true c.in_default.ensures.none)

pub returns-in_default-next_keep-clause-err : goal.returns-in_default-next_keep-clause-err
returns-in_default-next_keep-clause-err c =
    rw c.at-in_default-next_keep.ensures
    (keeping_stops c.args.version c.args.told.next_id c.args.told.count c.args.text.now c.loop-place.kept.items c.loop-place.rest.now c.loop-place.least c.loop-place.place
    c.in-Some.line.now c.in-Some.behind.now c.loop-place.invariant c.loop-place-test.true c.in-Some.ensures.text c.in-Some.ensures.line c.in_default-next_keep.ensures.none)

pub loop-place-preserved : goal.loop-place-preserved
loop-place-preserved c =
    rw c.in-Ok.ensures.items
    (kept_more c.args.version c.args.told.next_id c.args.text.now c.loop-place.kept.items c.loop-place.rest.now c.loop-place.least c.loop-place.place
    c.in-Some-next_keep.element c.in-Some.line.now c.in-Some.behind.now c.loop-place.invariant c.in-Some.ensures.text c.in-Some-next_keep.ensures.some)

pub returns-clause-ok : goal.returns-clause-ok
returns-clause-ok c =
    rw c.new.ensures
    (kept_all c.args.version c.args.told.next_id c.args.told.count c.args.text.now c.loop-place.kept.items c.loop-place.rest.now c.loop-place.least c.loop-place.place
    c.loop-place.invariant (omega (arith, c.loop-place-test.false, c.loop-place.auto.place-end)))
