-- The opening's ids rise, so each insert meets a new id, and all end below the next one.
use Rattle.std.proofs.Common.{sym, ap, ◌∙◌}
use Rattle.std.proofs.Common.{arith}
use Rattle.std.proofs.lemmas.List.{take_all}
use Rattle.std.specs.FinMap as map
use Rattle.rb_queue.specs.Bag.{bag_from}
use Rattle.rb_queue.proofs.Queues.{absent_before, bag_from-more, below_end, named_at}
use Rattle.rb_queue.proofs.delay_queue.DelayQueue.new_from.Goals as goal

pub insert-requires : goal.insert-requires
insert-requires g c =
    let order = rw (← c.as_slice-element-items.ensures) at c.args.opening.now.opening.order in
    rw c.loop-element.invariant (absent_before c.as_slice-element-items.result.now _ c.loop-element.element-index c.element-item.result order c.loop-element-test.true
    (named_at _ _ _ c.loop-element-test.true c.element-item.is))

pub loop-element-preserved : goal.loop-element-preserved
loop-element-preserved g c =
    let order = rw (← c.as_slice-element-items.ensures) at c.args.opening.now.opening.order in
    let absent = absent_before c.as_slice-element-items.result.now _ c.loop-element.element-index c.element-item.result order c.loop-element-test.true
    (named_at _ _ _ c.loop-element-test.true c.element-item.is) in
    c.in_ok-insert.ensures.ok ∙ ap (λ bag. map.insert bag c.element-item.result.id c.element-item.result) c.loop-element.invariant
    ∙ sym (bag_from-more c.as_slice-element-items.result.now c.loop-element.element-index c.element-item.result c.loop-element-test.true c.element-item.is absent)

pub invariant_of-result : goal.invariant_of-result
invariant_of-result g c =
    let order = rw (← c.as_slice-element-items.ensures) at c.args.opening.now.opening.order in
    rw c.loop-element.invariant (below_end c.as_slice-element-items.result.now c.loop-element.element-index c.args.opening.now.next_id order)

pub returns : goal.returns
returns g c = let all = take_all c.loop-element.element-index c.as_slice-element-items.result.now (omega arith) in
    ap (λ bag. record { bag = bag; next_id = c.args.opening.now.next_id }) (c.loop-element.invariant ∙ ap bag_from (all ∙ c.as_slice-element-items.ensures))
