-- The index begins empty, and the opening's rising ids come in one behind the other.
use Rattle.std.proofs.Common.{refl, sym, subst}
use Rattle.rb_queue.specs.Opening.{AreInOrder}
use Rattle.rb_replay.proofs.AttemptIndexes.{opened_none, opened_next}
use Rattle.rb_replay.proofs.attempt_index.AttemptIndex.new_from.Goals as goal

pub loop-element-init : goal.loop-element-init
loop-element-init c = opened_none c.args.opening.now.next_id _ c.new-2.ensures.items c.new.ensures.empty c.new-3.ensures.empty c.new-4.ensures.empty refl

pub loop-element-preserved : goal.loop-element-preserved
loop-element-preserved c =
    let order = subst (λ elements. AreInOrder elements c.args.opening.now.next_id) (sym c.as_slice-element-items.ensures) c.args.opening.now.opening.order in
    opened_next _ _ c.loop-element.element-index c.element-item.result _ _ order c.loop-element-test.true c.element-item.is c.loop-element.invariant
    c.in_ok-keep_opened.ensures
