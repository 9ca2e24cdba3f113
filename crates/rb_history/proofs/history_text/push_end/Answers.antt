-- The words and a line feed were pushed in turn: the last line.
use Rattle.std.proofs.Common.{append_assoc, append-nil}
use Rattle.rb_history.proofs.Outlets.{grows_as, grows_then}
use Rattle.rb_history.proofs.history_text.push_end.Goals as goal

pub returns : goal.returns
returns g c = grows_as g.W.Write c.args.outlet.now _ _ c.push.new.self (simp (append_assoc, append-nil))
    (grows_then g.W.Write c.args.outlet.now c.push_numbers.new.outlet c.push.new.self _ _ c.push_numbers.ensures.words c.push.ensures)
