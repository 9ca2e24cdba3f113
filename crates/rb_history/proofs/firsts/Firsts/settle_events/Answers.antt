-- One event more is settled, and those behind it are as they were.
use Rattle.std.proofs.Common.{◌<◌, length, get_or, ap, arith}
use Rattle.rb_history.proofs.Settlings.{events_more}
use Rattle.rb_history.proofs.firsts.Firsts.settle_events.Goals as goal

pub loop-event-preserved : goal.loop-event-preserved
loop-event-preserved c =
    let within : c.loop-event.event-index < length c.loop-event.events = omega (arith, c.loop-event-test.true, c.loop-event.auto.events) in
    events_more _ _ _ _ c.loop-event.events c.loop-event.event-index _ _ c.loop-event.invariant within
    (ap (get_or c.loop-event.events c.loop-event.event-index) c.event-item.is) c.in_ok-settle_event.ensures
