-- A word is no number if it is empty, has a leading zero, or its digits have no value of 64 bits.
use Rattle.std.proofs.Common.{◌≡◌, ◌<◌, length, true, false, rules, refl, arith}
use Rattle.std.proofs.lemmas.Bool.Decides.{nat_tests}
use Rattle.rb_protocol.proofs.Numbers.{number_filled, number_start, number_read, number_unread}
use Rattle.rb_protocol.proofs.number.read_number.Goals as goal
use Rattle.rb_protocol.proofs.number.read_number.Goals.{then-is_empty-via-then-is_empty, then-is_empty-via-else-is_empty+then-has_leading_zero}

pub returns-then-is_empty-clause-none : goal.returns-then-is_empty-clause-none
returns-then-is_empty-clause-none c = λ number h.
    elim c.then-is_empty.branch [
      | then-is_empty-via-then-is_empty w ↦
          let filled = number_filled c.args.word.now number h in grind (arith, nat_tests)
      | then-is_empty-via-else-is_empty+then-has_leading_zero w ↦
          let zero = w.if-has_leading_zero.ensures.0 refl in
          omega (arith, zero.1, number_start c.args.word.now number h zero.0)
    ]

pub returns-clause-some : goal.returns-clause-some
returns-clause-some c =
    let some : 0 < length c.args.word.now = grind (arith, nat_tests) in
    number_read c.args.word.now c.digits_value.result some
    (λ zero. let is : false ≡ true = c.if-has_leading_zero.ensures.1 zero in cc)
    c.digits_value.ensures.digits c.digits_value.ensures.value (search rules)

pub returns-clause-none : goal.returns-clause-none
returns-clause-none c = number_unread _ c.digits_value.result c.digits_value.ensures.none
