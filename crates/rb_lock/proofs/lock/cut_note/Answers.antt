-- A note is cut off the seat.
use Rattle.std.proofs.Common.{arith}
use Rattle.rb_lock.proofs.Meetings.{notes_at}
use Rattle.rb_lock.proofs.lock.cut_note.Goals as goal

pub split_seat-requires : goal.split_seat-requires
split_seat-requires g c =
    let seat = c.args.seat.now in (
      c.requires.table,
      omega (arith, c.requires.lock.words),
      notes_at {T = g.row.T.Denot} seat.table_id seat.me c.requires.rest seat.id,
    )
