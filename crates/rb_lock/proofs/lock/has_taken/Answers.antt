-- A seat at rest may try: the exchange keeps the rule whether it takes the lock or finds it taken.
use Rattle.std.proofs.Common.{arith}
use Rattle.rb_lock.proofs.Takings.{takes_at, one_or_more}
use Rattle.rb_lock.proofs.lock.has_taken.Goals as goal

pub compare_exchange-requires : goal.compare_exchange-requires
compare_exchange-requires g c =
    let words = c.args.table.now in
    let seat = c.args.seat.now in
    (c.requires.table, omega (arith, c.requires.lock.words), takes_at {T = g.row.T.Denot} words.table_id.slots seat.id seat.table_id seat.me c.requires.rest (λ n. _) one_or_more)
