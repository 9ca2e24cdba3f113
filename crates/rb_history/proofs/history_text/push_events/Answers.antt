-- The line of one event more goes behind those before it.
use Rattle.std.proofs.Common.{ap, map, subst, take_all}
use Rattle.rb_history.specs.EventText.{event_words}
use Rattle.rb_history.specs.HistoryText.{lines_text}
use Rattle.rb_history.specs.Ranges.{AreRightEvents, IsRightEvent}
use Rattle.rb_history.specs.declared.version.Version.TheVariants.{Three}
use Rattle.rb_history.proofs.Lines.{lines_more}
use Rattle.rb_history.proofs.Outlets.{grows_as, grows_then}
use Rattle.rb_history.proofs.RightValues.{right_more}
use Rattle.rb_history.proofs.history_text.push_events.Goals as goal

pub loop-event-preserved : goal.loop-event-preserved
loop-event-preserved g c = record {
  lines = grows_as g.W.Write c.args.outlet.now _ _ c.push_event.new.outlet
      (lines_more (event_words Three) c.args.events.now c.loop-event.event-index c.event-item.result c.loop-event-test.true c.event-item.is)
      (grows_then g.W.Write c.args.outlet.now c.loop-event.outlet c.push_event.new.outlet _ _ c.loop-event.invariant.lines c.push_event.ensures.line);
  right = right_more IsRightEvent c.args.events.now c.loop-event.event-index c.event-item.result c.loop-event-test.true c.event-item.is
      c.loop-event.invariant.right c.push_event.ensures.right;
}

pub returns-clause-lines : goal.returns-clause-lines
returns-clause-lines g c = grows_as g.W.Write c.args.outlet.now _ _ c.loop-event.outlet
    (ap (λ items. lines_text (map (event_words Three) items)) (take_all c.loop-event.event-index c.args.events.now c.loop-event-test.false))
    c.loop-event.invariant.lines

pub returns-clause-right : goal.returns-clause-right
returns-clause-right g c =
    subst AreRightEvents (take_all c.loop-event.event-index c.args.events.now c.loop-event-test.false) c.loop-event.invariant.right
