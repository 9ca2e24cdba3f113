-- The parent moves into the hole, and leaves the hole at its own place.
use Rattle.std.proofs.Common.{◌-◌, ◌/◌, arith}
use Rattle.rb_binary.proofs.KeptPlaces.{other_in_room, carries_step}
use Rattle.rb_binary.proofs.Order.{rise_step}
use Rattle.rb_binary.proofs.heap.sift_up.Goals as goal

pub put-requires-clause-in_room : goal.put-requires-clause-in_room
put-requires-clause-in_room c =
    let within = c.loop-place.invariant.carries.in_heap in
    other_in_room _ _ _ _ _ c.loop-place.invariant.carries
    ((c.loop-place.place - 1) / 2) (omega arith) (omega arith)

pub loop-place-preserved : goal.loop-place-preserved
loop-place-preserved c =
    let before = c.loop-place.invariant in
    let parent = (c.loop-place.place - 1) / 2 in
    let within = before.carries.in_heap in
    let above = c.loop-place-test.true in
    record {
      carries = rw (c.put.ensures.heap, c.put.ensures.places)
          (carries_step _ _ _ _ _ before.carries parent (omega arith) (omega arith));
      ordered = rw c.put.ensures.heap
          (rise_step _ _ parent _ within
          (omega arith) (omega arith) above (omega arith) c.if-above-entry.false before.ordered);
    }
