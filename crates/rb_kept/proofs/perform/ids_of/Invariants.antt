-- The ids so far, and room for the others.
use Rattle.std.proofs.Common.{◌≡◌, ◌≤◌, length, take, vec_len}
use Rattle.std.specs.Prelude.{vec_capacity}
use Rattle.rb_queue.specs.Opening.{ids_of}
use Rattle.rb_kept.proofs.perform.ids_of.Given as goal

abbrev pub invariant-loop-element : goal.invariant-loop-element
invariant-loop-element l = record {
  so_far : l.ids.items ≡ ids_of (take l.element-index l.elements);
  counted : vec_len l.ids ≡ l.element-index;
  room : length l.elements ≤ vec_capacity l.ids;
}
