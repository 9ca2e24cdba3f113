-- One head more fits the room, and the drain ends at `max` or where nothing is expired.
use Rattle.std.proofs.Common.{◌+◌, ◌≤◌, length, ap, ◌∙◌, arith}
use Rattle.rb_queue.proofs.Drains.{drained_none, drained_more, drained_as, drains, some_standing}
use Rattle.rb_queue.proofs.delay_queue.DelayQueue.drain.Goals as goal
use Rattle.rb_queue.proofs.delay_queue.DelayQueue.drain.Goals.{else-loop-test, then-loop-test+in_default}

pub loop-init : goal.loop-init
loop-init g c = record {
  so_far = rw c.in_ok-items.ensures.items (drained_none c.args.self.now c.args.now);
  counted = c.in_ok-items.ensures.len;
  room = omega (arith, (c.size.ensures 0).permitted, c.min-most.ensures, c.in_ok-items.ensures.capacity);
}

pub push_reserved-requires : goal.push_reserved-requires
push_reserved-requires g c =
    let some = some_standing c.loop.self.bag c.in-Some.element.id c.in-Some.element c.in-Some.ensures.element in
    omega (arith, some, c.loop.invariant.so_far.counted, c.loop.invariant.counted, c.loop.invariant.room)

pub loop-preserved : goal.loop-preserved
loop-preserved g c = record {
  so_far = rw c.push_reserved.ensures.items
      (drained_more c.args.self.now c.loop.self c.poll.new.self c.args.now c.loop.items.items c.in-Some.element c.loop.invariant.so_far c.in-Some.ensures.polls c.in-Some.ensures.element);
  counted = c.push_reserved.ensures.len ∙ ap (λ n. n + 1) c.loop.invariant.counted;
  room = rw c.push_reserved.ensures.capacity c.loop.invariant.room;
}

pub returns-clause-drains : goal.returns-clause-drains
returns-clause-drains g c =
    let few : length c.loop.items.items ≤ c.args.max = omega (arith, c.loop.invariant.counted, c.loop.auto.counter-end) in
    rw c.new.ensures
    (elim c.loop-test.branch [
      | else-loop-test w ↦ drains c.args.self.now c.loop-test.self c.args.now c.args.max c.loop.items.items
          (drained_as c.args.self.now c.loop.self c.loop-test.self c.args.now c.loop.items.items w.self-is c.loop.invariant.so_far) few
          (λ less. absurd (omega (arith, less, c.loop.invariant.counted, w.loop-test.false)))
      | then-loop-test+in_default w ↦ drains c.args.self.now c.loop-test.self c.args.now c.args.max c.loop.items.items
          (drained_as c.args.self.now c.loop.self c.loop-test.self c.args.now c.loop.items.items (w.self-is ∙ w.in_default.ensures.polls.after) c.loop.invariant.so_far) few
          (λ less. rw (w.self-is, w.in_default.ensures.polls.after) w.in_default.ensures.polls.permitted)
    ])

pub returns-clause-elements : goal.returns-clause-elements
returns-clause-elements g c = rw c.new.ensures c.loop.invariant.so_far.found

pub returns-clause-few : goal.returns-clause-few
returns-clause-few g c = rw c.new.ensures (omega (arith, c.loop.invariant.so_far.counted))
