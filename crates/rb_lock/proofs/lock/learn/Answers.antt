-- Both steps keep the rule: a note is joined to the seat, and learned by a look.
use Rattle.std.proofs.Common.{arith, ap, ◌∙◌}
use Rattle.rb_lock.specs.LockSteps.{LockSeat}
use Rattle.rb_lock.proofs.Meetings.{meets_at, compares_at}
use Rattle.rb_lock.proofs.lock.learn.Goals as goal

pub join_seat-requires : goal.join_seat-requires
join_seat-requires g c =
    let seat = c.args.seat.now in
    let note = c.args.note in (
      c.requires.table,
      c.requires.note_table,
      ap (λ (m : LockSeat g.row.T.Denot). m.1) c.requires.note.is,
      omega (arith, c.requires.lock.words),
      meets_at {T = g.row.T.Denot} seat.table_id seat.me c.requires.rest note.me c.requires.note seat.id note.id,
    )

pub load-requires : goal.load-requires
load-requires g c =
    let seat = c.args.seat.now in
    let note = c.args.note in
    let met = c.join_seat.new.seat in (
      c.join_seat.ensures.0 ∙ c.requires.table,
      omega (arith, c.requires.lock.words),
      compares_at {T = g.row.T.Denot} seat.table_id seat.me c.requires.rest note.me c.requires.note
          c.args.table.now.table_id.slots met.id met.me c.join_seat.ensures.2,
    )
