-- The events so far were pushed, and are in their ranges.
use Rattle.std.proofs.Common.{map, take}
use Rattle.rb_history.specs.EventText.{event_words}
use Rattle.rb_history.specs.HistoryText.{lines_text}
use Rattle.rb_history.specs.Outlet.{Grows}
use Rattle.rb_history.specs.Ranges.{AreRightEvents}
use Rattle.rb_history.specs.declared.version.Version.TheVariants.{Three}
use Rattle.rb_history.proofs.history_text.push_events.Given as goal

abbrev pub invariant-loop-event : goal.invariant-loop-event
invariant-loop-event g l = record {
  lines : Grows g.W.Write l.fn.outlet (lines_text (map (event_words Three) (take l.event-index l.events))) l.outlet;
  right : AreRightEvents (take l.event-index l.events);
}
