-- The heads so far were taken, and there is room for the others.
use Rattle.std.proofs.Common.{◌≡◌, ◌≤◌, vec_len}
use Rattle.std.specs.Prelude.{min, vec_capacity}
use Rattle.std.specs.FinMap as map
use Rattle.rb_queue.proofs.Drains.{Drained}
use Rattle.rb_queue.proofs.delay_queue.DelayQueue.drain.Given as goal

abbrev pub invariant-loop : goal.invariant-loop
invariant-loop g l = record {
  so_far : Drained l.initial.self l.self l.now l.items.items;
  counted : vec_len l.items ≡ l.counter;
  room : min l.max (map.len l.initial.self.bag) ≤ vec_capacity l.items;
}
