-- Equal totals mean that all calls are this pass's; else the pair goes back and it is refused.
use Rattle.std.proofs.Common.{◌≡◌, ap, ◌∙◌, [], ◌∷◌}
use Rattle.std.specs.Prelude.{Some}
use Rattle.rb_queue.specs.declared.audit.Audit.{Audit}
use Rattle.rb_lock.specs.LockSteps.{LockSeat}
use Rattle.rb_lock.specs.Passes.{PassState, tally_of}
use Rattle.rb_lock.specs.Views.{idle, pass_of}
use Rattle.rb_lock.proofs.Closings.{HasTotals, has_all_calls, has_whole, back_may_give, refused}
use Rattle.rb_lock.proofs.EqualTotals.{equal_totals, other_totals}
use Rattle.rb_lock.proofs.RestingPasses.{found_in_hand}
use Rattle.rb_lock.proofs.shared.Shared.close.Given.{Over}
use Rattle.rb_lock.proofs.shared.Shared.close.Goals as goal
use Rattle.rb_lock.proofs.shared.Shared.close.Goals.{After-totals-counted, After-put_back}

has_totals : (g : Over) (c : After-totals-counted g)
    → HasTotals {T = g.row.T.Denot} c.args.pass c.pass.inside.seat.me c.take.new.seat.me c.take_out-pair.result c.totals-counted.result c.totals_in-booked.result
has_totals g c = record {
  rest = c.pass.invariant.rest ∙ ap (λ (p : PassState). (idle p, [])) c.pass.view_is;
  got = c.take.ensures.taken;
  out = c.take_out-pair.ensures.out;
  legal = c.take_out-pair.ensures.legal;
  fits = c.take_out-pair.ensures.fits;
  share_is = c.totals-counted.ensures ∙ c.pass.invariant.counted ∙ ap tally_of c.pass.view_is;
  books_are = c.totals_in-booked.ensures.totals ∙ ap (λ (a : Audit). record { calls = a.calls; offered = a.offered; given = a.given }) c.audit-audit.ensures.counts;
  counts = c.totals_in-booked.ensures.fits;
}

back_in_hand : (g : Over) (c : After-put_back g) → c.put_back.new.seat.me ≡ (c.take.new.seat.me.0, (0, Some c.take_out-pair.result) ∷ [])
back_in_hand g c = c.put_back.ensures.back ∙ ap (λ (m : LockSeat g.row.T.Denot). (m.0, (0, Some c.take_out-pair.result) ∷ [])) c.take_out-pair.ensures.empty

pub take_out-pair-requires-clause-hand : goal.take_out-pair-requires-clause-hand
take_out-pair-requires-clause-hand g c = found_in_hand {T = g.row.T.Denot} (pass_of c.pass.inside.seat.table_id c.pass.inside.seat.me.0) _ _ c.pass.invariant.rest c.take.ensures.taken

pub returns-then-eq-clause-holds : goal.returns-then-eq-clause-holds
returns-then-eq-clause-holds g c =
    has_all_calls (has_totals g (goal.at.returns-then-eq-clause-holds g c).After-totals-counted) (equal_totals c.totals-counted.result c.totals_in-booked.result c.if-eq.ensures)

pub give-requires-clause-holds : goal.give-requires-clause-holds
give-requires-clause-holds g c =
    let at = goal.at.give-requires-clause-holds g c in
    back_may_give (has_totals g at.After-totals-counted) c.put_back.new.seat.me (back_in_hand g at.After-put_back)

pub returns-clause-not_all : goal.returns-clause-not_all
returns-clause-not_all g c =
    let at = goal.at.returns-clause-not_all g c in
    let table = c.give.ensures.table ∙ (c.put_back.ensures.table ∙ (c.take_out-pair.ensures.table ∙ (c.take.ensures.table ∙ ap (λ (p : PassState). p.table) c.pass.view_is))) in
    refused (has_totals g at.After-totals-counted) c.put_back.new.seat.me (back_in_hand g at.After-put_back) c.give.new.seat.table_id c.give.new.seat.me table c.give.ensures.seen
    (other_totals c.totals-counted.result c.totals_in-booked.result c.if-eq.ensures)

pub returns-clause-missing : goal.returns-clause-missing
returns-clause-missing g c all =
    let at = goal.at.returns-clause-missing g c in
    other_totals c.totals-counted.result c.totals_in-booked.result c.if-eq.ensures (has_whole (has_totals g at.After-totals-counted) all)
