-- One digit more, and why `None` is right: a byte is no digit, or the value passes 64 bits.
use Rattle.std.proofs.Common.{◌+◌, ◌-◌, ◌*◌, ◌^◌, ◌≤◌, get_or, arith}
use Rattle.std.proofs.lemmas.Str.Parse.{digit_at}
use Rattle.std.specs.Int.{IsInRange}
use Rattle.std.specs.Str.Parse.{AllDigits, digits_value}
use Rattle.rb_protocol.proofs.Numbers.{value_more, digits_one_more, too_large}
use Rattle.rb_protocol.proofs.number.digits_value.Goals as goal
use Rattle.rb_protocol.proofs.number.digits_value.Goals.{After-is_ascii_digit}

-- where the value with this digit is too large, so is the whole
passes : (c : After-is_ascii_digit) → 2 ^ 64 ≤ c.loop-byte.value * 10 + (get_or c.args.digits.now c.loop-byte.byte-index 0 - 48)
    → AllDigits 10 c.args.digits.now → 2 ^ 64 ≤ digits_value 10 c.args.digits.now
passes c large all = too_large _ c.loop-byte.byte-index _ (omega arith) (digit_at c.args.digits.now c.loop-byte.byte-index all (omega arith)) c.loop-byte.invariant.same_value large

pub returns-then-not-is_ascii_digit-clause-none : goal.returns-then-not-is_ascii_digit-clause-none
returns-then-not-is_ascii_digit-clause-none c = λ all.
    let range = digit_at c.args.digits.now c.loop-byte.byte-index all (omega arith) in
    let none = rw c.if-not-is_ascii_digit.true at c.is_ascii_digit.ensures.cases in
    absurd (omega (arith, range, none))

pub returns-in_err-checked_mul-clause-none : goal.returns-in_err-checked_mul-clause-none
returns-in_err-checked_mul-clause-none c =
    rw c.from_residual.ensures (passes (goal.at.returns-in_err-checked_mul-clause-none c).After-is_ascii_digit (omega (arith, c.in_err-checked_mul.ensures)))

pub returns-in_err-value-clause-none : goal.returns-in_err-value-clause-none
returns-in_err-value-clause-none c =
    rw c.from_residual-in_err-value.ensures
    (passes (goal.at.returns-in_err-value-clause-none c).After-is_ascii_digit (omega (arith, c.in_err-value.ensures, c.in_ok-checked_mul.ensures)))

pub loop-byte-preserved : goal.loop-byte-preserved
loop-byte-preserved c =
    let range : IsInRange 48 57 (get_or c.args.digits.now c.loop-byte.byte-index 0) =
    rw c.if-not-is_ascii_digit.false at c.is_ascii_digit.ensures.cases in
    let more = value_more c.args.digits.now c.loop-byte.byte-index _ (omega arith) range c.loop-byte.invariant.same_value in
    record {
      all_digits = digits_one_more c.args.digits.now c.loop-byte.byte-index (omega arith) range c.loop-byte.invariant.all_digits;
      same_value = omega (arith, more, c.in_ok-value.ensures, c.in_ok-checked_mul.ensures);
    }
