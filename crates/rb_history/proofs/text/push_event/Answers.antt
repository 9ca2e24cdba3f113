-- Three numbers, the act's words and a line feed were pushed in turn: the event's line.
use Rattle.std.proofs.Common.{decimal}
use Rattle.rb_history.specs.EventText.{act_words}
use Rattle.rb_history.specs.declared.version.Version.TheVariants.{Three}
use Rattle.rb_history.proofs.Lines.{event_line}
use Rattle.rb_history.proofs.Outlets.{grows_as, grows_then}
use Rattle.rb_history.proofs.text.push_event.Goals as goal

pub returns-clause-line : goal.returns-clause-line
returns-clause-line g c =
    let event = c.args.event.now in
    let last = c.push.new.self in
    grows_as g.W.Write c.args.outlet.now _ _ last
    (event_line (decimal event.seat) (decimal event.asked) (decimal event.at) (act_words Three event.act))
    (grows_then g.W.Write c.args.outlet.now c.push_number.new.outlet last _ _ c.push_number.ensures.digits
    (grows_then g.W.Write c.push_number.new.outlet c.push_numbers.new.outlet last _ _ c.push_numbers.ensures.words
    (grows_then g.W.Write c.push_numbers.new.outlet c.push_act.new.outlet last _ _ c.push_act.ensures.words c.push.ensures)))
