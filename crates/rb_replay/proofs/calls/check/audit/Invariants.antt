-- The counts of the events so far.
use Rattle.std.proofs.Common.{◌≡◌, take}
use Rattle.rb_queue.specs.Counts.{offer_count, give_count}
use Rattle.rb_replay.proofs.calls.check.audit.Given as goal

abbrev pub invariant-loop-event : goal.invariant-loop-event
invariant-loop-event l = record {
  offered : l.offered ≡ offer_count (take l.event-index l.events);
  given : l.given ≡ give_count (take l.event-index l.events);
}
