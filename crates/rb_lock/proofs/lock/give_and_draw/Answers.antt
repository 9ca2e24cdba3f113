-- The exchange that gives the lock back keeps the rule, and draws the name that the pair had next.
use Rattle.std.proofs.Common.{arith}
use Rattle.rb_lock.proofs.Returns.{draws_at}
use Rattle.rb_lock.proofs.lock.give_and_draw.Goals as goal

pub swap-found-requires : goal.swap-found-requires
swap-found-requires g c =
    let seat = c.args.seat.now in
    (c.requires.table, omega (arith, c.requires.lock.words), draws_at {T = g.row.T.Denot} c.args.table.now.table_id.slots seat.id seat.me c.requires.holds)
