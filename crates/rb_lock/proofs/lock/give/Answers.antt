-- The exchange that gives the lock back keeps the rule, since this seat has the pair in hand.
use Rattle.std.proofs.Common.{arith}
use Rattle.rb_lock.proofs.Returns.{gives_at}
use Rattle.rb_lock.proofs.lock.give.Goals as goal

pub swap-found-requires : goal.swap-found-requires
swap-found-requires g c =
    let seat = c.args.seat.now in
    (c.requires.table, omega (arith, c.requires.lock.words), gives_at {T = g.row.T.Denot} c.args.table.now.table_id.slots seat.id seat.me c.requires.holds)
