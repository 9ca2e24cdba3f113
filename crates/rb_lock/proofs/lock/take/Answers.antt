-- Tries that were lost left the seat at rest, so it may try once more.
use Rattle.std.proofs.Common.{arith, ◌∙◌}
use Rattle.rb_lock.proofs.Takings.{takes_again}
use Rattle.rb_lock.proofs.lock.take.Goals as goal

pub swap-requires : goal.swap-requires
swap-requires g c =
    let seat = c.args.seat.now in
    let first = c.has_taken.ensures in
    let again = c.has_taken-2.ensures in (
      c.loop.invariant.0 ∙ (again.table ∙ (first.table ∙ c.requires.table)),
      omega (arith, c.requires.lock.words),
      takes_again {T = g.row.T.Denot} c.args.table.now.table_id.slots c.loop.seat.id seat.table_id seat.me c.loop.seat.me
          (c.loop.invariant.1 ∙ (again.lost c.if-has_taken-2.false ∙ first.lost c.if-has_taken.false)) c.requires.rest (λ n. 2) (λ n. omega arith),
    )
