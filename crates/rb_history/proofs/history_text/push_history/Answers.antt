-- The five parts were pushed in turn, so together they are the lines of the history's text.
use Rattle.std.proofs.Common.{map, length}
use Rattle.rb_history.specs.EventText.{keep_words, event_words, open_words, header_words, end_words}
use Rattle.rb_history.specs.declared.version.Version.TheVariants.{Three}
use Rattle.rb_history.proofs.Lines.{all_lines}
use Rattle.rb_history.proofs.Outlets.{grows_as, grows_then}
use Rattle.rb_history.proofs.history_text.push_history.Goals as goal

pub returns-clause-text : goal.returns-clause-text
returns-clause-text g c =
    let last = c.push_end.new.outlet in
    grows_as g.W.Write c.args.outlet.now _ _ last
    (all_lines (header_words Three) (open_words c.args.opening.now) (end_words (length c.args.events.now))
    (map (keep_words Three) c.args.opening.now.elements) (map (event_words Three) c.args.events.now))
    (grows_then g.W.Write c.args.outlet.now c.push.new.self last _ _ c.push.ensures
    (grows_then g.W.Write c.push.new.self c.push_open.new.outlet last _ _ c.push_open.ensures.line
    (grows_then g.W.Write c.push_open.new.outlet c.push_keeps.new.outlet last _ _ (rw c.as_slice.ensures at c.push_keeps.ensures.lines)
    (grows_then g.W.Write c.push_keeps.new.outlet c.push_events.new.outlet last _ _ c.push_events.ensures.lines c.push_end.ensures))))
