-- The events so far are settled.
use Rattle.rb_history.proofs.Settlings.{EventsSettled}
use Rattle.rb_history.proofs.firsts.Firsts.settle_events.Given as goal

abbrev pub invariant-loop-event : goal.invariant-loop-event
invariant-loop-event l = EventsSettled l.fn.self l.fn.events l.self l.events l.event-index
