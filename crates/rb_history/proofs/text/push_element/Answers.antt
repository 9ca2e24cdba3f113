-- The front, five numbers and the payload were pushed in turn.
use Rattle.std.proofs.Common.{ap, decimal}
use Rattle.rb_history.proofs.Lines.{element_line}
use Rattle.rb_history.proofs.Outlets.{grows_as, grows_then}
use Rattle.rb_history.proofs.text.push_element.Goals as goal

pub returns-clause-words : goal.returns-clause-words
returns-clause-words g c =
    let element = c.args.element.now in
    let last = c.push-2.new.self in
    grows_as g.W.Write c.args.outlet.now _ _ last
    (element_line c.args.front.now (decimal element.id) (decimal element.expiry) (decimal element.origin) (decimal element.first)
    (decimal element.attempt) (decimal c.from.result) element.payload c.as_bytes.result.now (ap decimal c.from.ensures) c.as_bytes.ensures.bytes)
    (grows_then g.W.Write c.args.outlet.now c.push_numbers.new.outlet last _ _ c.push_numbers.ensures.words
    (grows_then g.W.Write c.push_numbers.new.outlet c.push_numbers-2.new.outlet last _ _ c.push_numbers-2.ensures.words
    (grows_then g.W.Write c.push_numbers-2.new.outlet c.push.new.self last _ _ c.push.ensures c.push-2.ensures)))
