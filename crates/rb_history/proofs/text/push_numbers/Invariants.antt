-- The front and the numbers so far were pushed, and the numbers have 64 bits.
use Rattle.std.proofs.Common.{◌++◌, decimal, map, take}
use Rattle.rb_history.specs.Outlet.{Grows}
use Rattle.rb_history.specs.Ranges.{AreWords}
use Rattle.rb_history.specs.Tails.{tails}
use Rattle.rb_history.proofs.text.push_numbers.Given as goal

abbrev pub invariant-loop-number : goal.invariant-loop-number
invariant-loop-number g l = record {
  words : Grows g.W.Write l.fn.outlet (l.front ++ tails (map decimal (take l.number-index l.numbers))) l.outlet;
  right : AreWords (take l.number-index l.numbers);
}
