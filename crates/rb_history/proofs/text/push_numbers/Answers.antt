-- One number more goes behind those before it.
use Rattle.std.proofs.Common.{◌++◌, ap, decimal, get_or, map, subst, sym, take, take_all}
use Rattle.std.proofs.lemmas.Grind.{get_or_default_zero}
use Rattle.rb_history.specs.Ranges.{AreWords}
use Rattle.rb_history.specs.Tails.{tails}
use Rattle.rb_history.proofs.Lines.{tails_more}
use Rattle.rb_history.proofs.Outlets.{grows_as, grows_then}
use Rattle.rb_history.proofs.RightValues.{words_more}
use Rattle.rb_history.proofs.text.push_numbers.Goals as goal

pub loop-number-preserved : goal.loop-number-preserved
loop-number-preserved g c =
    let numbers = c.args.numbers.now in
    let index = c.loop-number.number-index in
    let number = get_or numbers index 0 in
    let is = sym (get_or_default_zero numbers index _ c.loop-number-test.true) in
    record {
      words = grows_as g.W.Write c.args.outlet.now _ _ c.push_number.new.outlet
          (tails_more decimal c.args.front.now numbers index number c.loop-number-test.true is)
          (grows_then g.W.Write c.args.outlet.now c.loop-number.outlet c.push_number.new.outlet (c.args.front.now ++ tails (map decimal (take index numbers))) _ c.loop-number.invariant.words
          (grows_then g.W.Write c.loop-number.outlet c.push-in-loop-number.new.self c.push_number.new.outlet _ _
          c.push-in-loop-number.ensures c.push_number.ensures.digits));
      right = words_more numbers index number c.loop-number-test.true is c.loop-number.invariant.right c.push_number.ensures.right;
    }

pub returns-clause-words : goal.returns-clause-words
returns-clause-words g c = grows_as g.W.Write c.args.outlet.now _ _ c.loop-number.outlet
    (ap (λ numbers. c.args.front.now ++ tails (map decimal numbers)) (take_all c.loop-number.number-index c.args.numbers.now c.loop-number-test.false))
    c.loop-number.invariant.words

pub returns-clause-right : goal.returns-clause-right
returns-clause-right g c =
    subst AreWords (take_all c.loop-number.number-index c.args.numbers.now c.loop-number-test.false) c.loop-number.invariant.right
