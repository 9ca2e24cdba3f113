-- The front and the id, or `none`, were pushed in turn.
use Rattle.std.proofs.Common.{◌++◌, ap, sym}
use Rattle.rb_history.specs.EventText.{given_words}
use Rattle.rb_history.specs.Tails.{tails}
use Rattle.rb_history.proofs.Outlets.{grows_as, grows_then}
use Rattle.rb_history.proofs.text.push_given.Goals as goal

pub returns-in-Some-clause-words : goal.returns-in-Some-clause-words
returns-in-Some-clause-words g c = grows_as g.W.Write c.args.outlet.now _ _ c.push_numbers.new.outlet
    (ap (λ given. c.args.front.now ++ tails (given_words given)) (sym c.in-Some.is)) c.push_numbers.ensures.words

pub returns-in-None-clause-words : goal.returns-in-None-clause-words
returns-in-None-clause-words g c = grows_as g.W.Write c.args.outlet.now _ _ c.push-in-None.new.self
    (ap (λ given. c.args.front.now ++ tails (given_words given)) (sym c.in-None.is))
    (grows_then g.W.Write c.args.outlet.now c.push.new.self c.push-in-None.new.self _ _ c.push.ensures c.push-in-None.ensures)
