-- An element's words and a line feed were pushed in turn.
use Rattle.std.proofs.Common.{append_assoc, append-nil}
use Rattle.rb_history.proofs.Outlets.{grows_as, grows_then}
use Rattle.rb_history.proofs.history_text.push_keep.Goals as goal

pub returns-clause-line : goal.returns-clause-line
returns-clause-line g c = grows_as g.W.Write c.args.outlet.now _ _ c.push.new.self (simp (append_assoc, append-nil))
    (grows_then g.W.Write c.args.outlet.now c.push_element.new.outlet c.push.new.self _ _ c.push_element.ensures.words c.push.ensures)
