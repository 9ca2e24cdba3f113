-- The tries so far have their steps, and there is room for the others.
use Rattle.std.proofs.Common.{◌≡◌, ◌≤◌, length, take}
use Rattle.std.specs.Prelude.{vec_len, vec_capacity}
use Rattle.rb_kept.specs.Shares.{Grows}
use Rattle.rb_kept.specs.Tries.{StepsAlong}
use Rattle.rb_kept.proofs.kept.Kept.run_tries.Given as goal

abbrev pub invariant-loop-one : goal.invariant-loop-one
invariant-loop-one g l = record {
  along : StepsAlong l.fn.self (take l.one-index l.one-items) l.steps.items l.self;
  grows : Grows l.fn.self l.self l.fn.tally l.tally;
  items : l.one-items ≡ l.fn.tries.items;
  counted : vec_len l.steps ≡ l.one-index;
  room : length l.one-items ≤ vec_capacity l.steps;
}
