-- The word with its number and the ids were pushed in turn.
use Rattle.std.proofs.Common.{append-nil}
use Rattle.rb_history.proofs.Outlets.{grows_as, grows_then}
use Rattle.rb_history.proofs.text.push_drain.Goals as goal

pub returns-clause-words : goal.returns-clause-words
returns-clause-words g c = grows_as g.W.Write c.args.outlet.now _ _ c.push_numbers-2.new.outlet (simp (append-nil))
    (grows_then g.W.Write c.args.outlet.now c.push_numbers.new.outlet c.push_numbers-2.new.outlet _ _ c.push_numbers.ensures.words c.push_numbers-2.ensures.words)
