-- Tries that were lost changed nothing at the seat: neither its table nor what it knows.
use Rattle.std.proofs.Common.{◌≡◌}
use Rattle.rb_lock.proofs.lock.take.Given as goal

abbrev pub invariant-loop : goal.invariant-loop
invariant-loop g l = (l.seat.table_id ≡ l.initial.seat.table_id) × (l.seat.me ≡ l.initial.seat.me)
