-- A number of 64 bits has at most 20 digits, so it fits in front of what is written.
use Rattle.std.proofs.Common.{◌≡◌, ◌≤◌, length, length-append, length-drop, drop, decimal, ap, lit<, arith}
use Rattle.std.proofs.lemmas.Fmt.{length-decimal-le}
use Rattle.rb_protocol.proofs.reply_line.ReplyLine.put_number.Goals as goal

pub write_digits-self-inside-requires : goal.write_digits-self-inside-requires
write_digits-self-inside-requires c =
    let digits : length (decimal c.args.number) ≤ 20 = length-decimal-le 20 c.args.number (lit< tt) (omega arith) (omega arith) in
    let within : c.self.inside.start ≤ 128 = c.self.invariant in
    let written : drop c.self.inside.start c.self.inside.bytes ≡ c.args.self.now = c.self.view_is in
    let room : length (decimal c.args.number) ≤ c.self.inside.start =
    omega (arith, digits, within, c.requires, c.self.told, length-drop c.self.inside.start c.self.inside.bytes, ap length written) in
    (omega (arith, room), omega (arith, within, c.self.told))

pub returns-clause-most : goal.returns-clause-most
returns-clause-most c =
    let digits : length (decimal c.args.number) ≤ 20 = length-decimal-le 20 c.args.number (lit< tt) (omega arith) (omega arith) in
    let written : drop c.self.inside.start c.self.inside.bytes ≡ c.args.self.now = c.self.view_is in
    omega (
      arith,
      digits,
      ap length c.write_digits-self-inside.ensures.written,
      length-append (decimal c.args.number) (drop c.self.inside.start c.self.inside.bytes),
      ap length written,
    )
