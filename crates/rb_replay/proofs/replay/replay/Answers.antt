-- The queue stands where the events so far led, so its refusal of the next one is the history's.
use Rattle.rb_replay.proofs.Replays.{end_more, end_refuses, ids_left}
use Rattle.rb_replay.proofs.replay.replay.Goals as goal

pub replay_event-requires : goal.replay_event-requires
replay_event-requires c = ids_left c.args.opening.now c.args.events.now c.loop-index.index _ c.requires c.loop-index.invariant

pub returns-in-Err : goal.returns-in-Err
returns-in-Err c =
    rw c.replay_fault.ensures
    (end_refuses c.args.opening.now c.args.events.now c.loop-index.index c.index-events-index.result _ _ c.in-Err.fault c.loop-index-test.true
    c.index-events-index.is c.loop-index.invariant c.in-Err.ensures)

pub loop-index-preserved : goal.loop-index-preserved
loop-index-preserved c =
    end_more c.args.opening.now c.args.events.now c.loop-index.index c.index-events-index.result _ _ c.requires c.loop-index-test.true c.index-events-index.is
    c.loop-index.invariant c.in_default-replay_event.ensures
