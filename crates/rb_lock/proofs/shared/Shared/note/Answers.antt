-- The note was cut off the seat of a pass, which has seen a legal history.
use Rattle.std.proofs.Common.{ap, ◌∙◌, []}
use Rattle.rb_lock.specs.LockSteps.{LockSeat}
use Rattle.rb_lock.specs.Views.{pass_of, note_of}
use Rattle.rb_lock.proofs.shared.Shared.note.Goals as goal

pub invariant_of-result : goal.invariant_of-result
invariant_of-result g c =
    let seat = c.pass.inside.seat in record {
      pass = pass_of seat.table_id seat.me.0;
      is = c.cut_note-seat.ensures.note
          ∙ ap (λ (m : LockSeat g.row.T.Denot). (note_of m.0, [])) c.pass.invariant.rest;
      legal = c.pass.invariant.sound.legal;
      few = c.pass.invariant.sound.few;
    }
