-- A seat with the pair in hand has one slot there, so the name that is given is that pair's.
use Rattle.std.proofs.Common.{Some}
use Rattle.rb_lock.proofs.HeldPairs.{only_slot, same_slot}
use Rattle.rb_lock.proofs.lock.next_name.Goals as goal

pub slot_mut-slot-requires : goal.slot_mut-slot-requires
slot_mut-slot-requires g c =
    let hand = c.requires.hand in (c.requires.table, (Some hand.0, only_slot {T = g.row.T.Denot} c.args.seat.now.me.1 (Some hand.0) hand.1))

pub next_name_of-requires : goal.next_name_of-requires
next_name_of-requires g c =
    let hand = c.requires.hand in (hand.0, same_slot {T = g.row.T.Denot} c.args.seat.now.me.1 _ (Some hand.0) c.slot_mut-slot.result.now hand.1 c.slot_mut-slot.ensures.value)
