-- A seat with the pair in hand has one slot there, which it may empty.
use Rattle.std.proofs.Common.{Some}
use Rattle.rb_lock.proofs.HeldPairs.{only_slot}
use Rattle.rb_lock.proofs.lock.take_out.Goals as goal

pub exchange-requires : goal.exchange-requires
exchange-requires g c =
    let hand = c.requires.hand in (c.requires.table, (Some hand.0, only_slot {T = g.row.T.Denot} c.args.seat.now.me.1 (Some hand.0) hand.1))
