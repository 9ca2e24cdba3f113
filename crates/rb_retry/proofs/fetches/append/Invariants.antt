-- The jobs so far, and room for the others.
use Rattle.std.proofs.Common.{◌≡◌, ◌+◌, ◌++◌, take, vec_len}
use Rattle.std.specs.Prelude.{vec_capacity}
use Rattle.rb_retry.proofs.fetches.append.Given as goal

abbrev pub invariant-loop-element : goal.invariant-loop-element
invariant-loop-element l = record {
  so_far : l.jobs.items ≡ l.fn.jobs.items ++ take l.element-index l.elements;
  counted : vec_len l.jobs ≡ vec_len l.fn.jobs + l.element-index;
  capacity : vec_capacity l.jobs ≡ vec_capacity l.fn.jobs;
}
