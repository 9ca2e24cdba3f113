-- One event for each place so far, and room for the others.
use Rattle.std.proofs.Common.{◌≡◌}
use Rattle.std.specs.Prelude.{vec_len, vec_capacity}
use Rattle.rb_kept.proofs.kept.touch.Given as goal

abbrev pub invariant-loop-place : goal.invariant-loop-place
invariant-loop-place l = record {
  counted : vec_len l.history ≡ l._place;
  same : vec_capacity l.history ≡ vec_capacity l.fn.history;
}
