-- Both seats are at rest, so one may join the other, and the pass then counts the calls of both.
use Rattle.std.proofs.Common.{arith, sym, ap, ◌∙◌}
use Rattle.rb_lock.specs.Passes.{PassState}
use Rattle.rb_lock.specs.LockSteps.{LockSeat}
use Rattle.rb_lock.proofs.FoldedPasses.{may_fold, folded_pass}
use Rattle.rb_lock.proofs.shared.Shared.fold.Goals as goal

pub join_seat-requires : goal.join_seat-requires
join_seat-requires g c =
    let pass = c.pass.inside.seat in
    let other = c.other.inside.seat in (
      ap (λ (p : PassState). p.table) c.pass.view_is ∙ (c.requires.pass ∙ sym c.self.view_is),
      ap (λ (p : PassState). p.table) c.other.view_is ∙ (c.requires.other ∙ sym c.self.view_is),
      ap (λ (m : LockSeat g.row.T.Denot). m.1) c.other.invariant.rest,
      omega (arith, c.self.invariant.words),
      may_fold {T = g.row.T.Denot} pass.table_id other.table_id pass.me other.me c.pass.invariant.rest c.other.invariant.rest pass.id other.id,
    )

pub invariant_of-pass : goal.invariant_of-pass
invariant_of-pass g c =
    let pass = c.pass.inside in
    let other = c.other.inside in
    folded_pass {T = g.row.T.Denot} pass.seat.table_id other.seat.table_id pass.seat.me other.seat.me c.pass.invariant.rest c.other.invariant.rest
    c.join_seat.new.seat.table_id c.join_seat.new.seat.me c.join_seat.ensures.0 c.join_seat.ensures.2 pass.name other.name pass.tally other.tally c.join.new.self
    c.pass.invariant c.other.invariant c.join.ensures
