-- The ids rise, so each is new to the map, which in the end has the whole bag.
use Rattle.std.proofs.Common.{◌<◌, sym, subst, arith}
use Rattle.std.proofs.lemmas.List.{take_all}
use Rattle.rb_queue.specs.Bag.{bag_from}
use Rattle.rb_queue.proofs.Queues.{absent_before, bag_from-more, named_at}
use Rattle.rb_replay.specs.ReplayedQueue.{HasElements}
use Rattle.rb_replay.proofs.Elements.{has_none, has_inserted}
use Rattle.rb_replay.proofs.replayed_queue.elements_of.Goals as goal

pub loop-element-init : goal.loop-element-init
loop-element-init c = has_none _ _ c.new-map.ensures.empty

pub loop-element-preserved : goal.loop-element-preserved
loop-element-preserved c =
    let absent = absent_before c.args.elements.now c.args.end c.loop-element.element-index c.element-item.result c.requires c.loop-element-test.true
    (named_at _ _ _ c.loop-element-test.true c.element-item.is) in
    let named = named_at c.args.elements.now c.loop-element.element-index c.element-item.result c.loop-element-test.true c.element-item.is in
    let below : c.element-item.result.id < c.args.end = omega (arith, c.requires.below c.loop-element.element-index c.loop-element-test.true, named) in
    subst (λ bag. HasElements bag c.args.end c.insert.new.self)
    (sym (bag_from-more c.args.elements.now c.loop-element.element-index c.element-item.result c.loop-element-test.true c.element-item.is absent))
    (has_inserted _ _ _ _ c.element-item.result c.loop-element.invariant below c.in_ok-insert.ensures.entries c.in_ok-insert.ensures.updates.0)

pub returns : goal.returns
returns c =
    subst (λ elements. HasElements (bag_from elements) c.args.end c.loop-element.map) (take_all c.loop-element.element-index c.args.elements.now (omega arith))
    c.loop-element.invariant
