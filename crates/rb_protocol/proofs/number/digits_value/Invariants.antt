-- The bytes so far are digits, and `value` is what they spell.
use Rattle.std.proofs.Common.{◌≡◌, take}
use Rattle.std.specs.Str.Parse.{AllDigits, digits_value}
use Rattle.rb_protocol.proofs.number.digits_value.Given as goal

abbrev pub invariant-loop-byte : goal.invariant-loop-byte
invariant-loop-byte l = record {
  all_digits : AllDigits 10 (take l.byte-index l.digits);
  same_value : l.value ≡ digits_value 10 (take l.byte-index l.digits);
}
