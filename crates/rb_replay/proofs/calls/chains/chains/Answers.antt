-- The index has the events so far, so its test of the next one is the spec's test of the history.
use Rattle.rb_replay.proofs.ChainedHistories.{looked_none, looked_more, offers_next_id, unchained_at}
use Rattle.rb_replay.proofs.calls.chains.chains.Goals as goal

pub loop-index-init : goal.loop-index-init
loop-index-init c = looked_none c.args.policy.now c.args.opening.now _ c.in-Ok.ensures.recalls c.in-Ok.ensures.next_id

pub returns-in-Err : goal.returns-in-Err
returns-in-Err c =
    unchained_at c.args.policy.now c.args.opening.now c.args.events.now c.loop-index.index c.index-events-index.result _ c.in-Err.reason
    c.loop-index-test.true c.index-events-index.is c.loop-index.invariant (c.in-Err.ensures _ _ c.loop-index.invariant.recalls)

pub loop-index-preserved : goal.loop-index-preserved
loop-index-preserved c =
    looked_more c.args.policy.now c.args.opening.now c.args.events.now c.loop-index.index c.index-events-index.result _ _ c.loop-index-test.true
    c.index-events-index.is c.loop-index.invariant (c.in_default-check_event.ensures _ _ c.loop-index.invariant.recalls) c.in-Ok-keep.ensures

pub keep-requires : goal.keep-requires
keep-requires c =
    offers_next_id c.args.policy.now c.args.opening.now c.args.events.now c.loop-index.index c.index-events-index.result c.loop-index.attempts
    c.requires c.loop-index-test.true c.index-events-index.is c.loop-index.invariant
