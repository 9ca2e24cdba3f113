-- The child moves into the hole, and leaves the hole at its own place.
use Rattle.std.proofs.Common.{arith}
use Rattle.rb_binary.proofs.KeptPlaces.{other_in_room, carries_step}
use Rattle.rb_binary.proofs.Order.{sink_step}
use Rattle.rb_binary.proofs.heap.sift_down.Goals as goal

pub put-requires-clause-in_room : goal.put-requires-clause-in_room
put-requires-clause-in_room c =
    let least = c.least_child-child.ensures in
    let below = least.below in
    other_in_room _ _ _ _ _ c.loop-place.invariant.carries
    c.least_child-child.result least.in_heap (omega arith)

pub loop-place-preserved : goal.loop-place-preserved
loop-place-preserved c =
    let before = c.loop-place.invariant in
    let child = c.least_child-child.result in
    let least = c.least_child-child.ensures in
    let below = least.below in
    record {
      carries = rw (c.put.ensures.heap, c.put.ensures.places)
          (carries_step _ _ _ _ _ before.carries child least.in_heap (omega arith));
      ordered = rw c.put.ensures.heap
          (sink_step _ _ child _ before.carries.in_heap least.in_heap (omega arith) least
          c.if-entry-below.false before.ordered);
    }
