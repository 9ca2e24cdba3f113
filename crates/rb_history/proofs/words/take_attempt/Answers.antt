-- An attempt's number is from 1 to the greatest one, and a word is no more than one number.
use Rattle.std.proofs.Common.{arith}
use Rattle.rb_history.proofs.Spelled.{same_number}
use Rattle.rb_history.proofs.words.take_attempt.Goals as goal

pub returns-then-number-eq0-clause-none : goal.returns-then-number-eq0-clause-none
returns-then-number-eq0-clause-none c = λ number others low high is.
    let same = same_number _ _ _ c.in_ok-number.number number c.in_ok-number.ensures.small (omega arith) c.in_ok-number.ensures.some is in
    omega (arith, same, low)

pub returns-then-number-from-clause-none : goal.returns-then-number-from-clause-none
returns-then-number-from-clause-none c = λ number others low high is.
    let same = same_number _ _ _ c.in_ok-number.number number c.in_ok-number.ensures.small (omega arith) c.in_ok-number.ensures.some is in
    omega (arith, same, high, c.from.ensures)
