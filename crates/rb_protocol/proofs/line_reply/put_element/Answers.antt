-- An attempt has at most four digits and a payload 64 bytes, so the line has room for the numbers.
use Rattle.std.proofs.Common.{◌≤◌, length, decimal, ap, arith}
use Rattle.rb_protocol.proofs.Attempts.{attempt_digits}
use Rattle.rb_protocol.proofs.line_reply.put_element.Goals as goal

pub put_numbers-requires : goal.put_numbers-requires
put_numbers-requires c =
    let digits : length (decimal c.from.result) ≤ 4 = attempt_digits c.from.result (omega (arith, c.from.ensures)) in
    omega (arith, c.put.ensures.len, c.put-2.ensures.len, c.put_number.ensures.len, c.put-3.ensures.len, c.as_bytes.ensures.payload.not_long, ap length c.as_bytes.ensures.bytes)

pub returns-clause-len : goal.returns-clause-len
returns-clause-len c =
    let digits : length (decimal c.from.result) ≤ 4 = attempt_digits c.from.result (omega (arith, c.from.ensures)) in
    omega (arith, c.put.ensures.len, c.put-2.ensures.len, c.put_number.ensures.len, c.put-3.ensures.len, c.put_numbers.ensures.len, c.as_bytes.ensures.payload.not_long, ap length c.as_bytes.ensures.bytes)
