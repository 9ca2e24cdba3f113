-- The writer has got the first bytes of the line.
use Rattle.std.proofs.Common.{sym, take, drop}
use Rattle.std.proofs.lemmas.List.{take-append-drop}
use Rattle.rb_protocol.proofs.streams.send.send_line.Goals as goal

pub returns-then-write_out-line-clause-sent : goal.returns-then-write_out-line-clause-sent
returns-then-write_out-line-clause-sent g c =
    let taken = c.write_out.result in
    (take taken c.args.line.now, drop taken c.args.line.now, sym (take-append-drop taken c.args.line.now), c.write_out.ensures.taken)
