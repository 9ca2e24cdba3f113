-- Each id keeps the order of those before it; the first that does not shows that they have none.
use Rattle.std.proofs.Common.{refl, inl, inr}
use Rattle.rb_queue.proofs.Orders.{so_far_none, so_far_more, out_of_order, in_order}
use Rattle.rb_queue.proofs.Queues.{named_at}
use Rattle.rb_queue.proofs.opening.are_in_order.Goals as goal
use Rattle.rb_queue.proofs.opening.are_in_order.Goals.{then-element-least-via-then-element-least, then-element-least-via-else-element-least+then-element-end}

pub loop-element-init : goal.loop-element-init
loop-element-init c = so_far_none _ _

pub loop-element-preserved : goal.loop-element-preserved
loop-element-preserved c =
    so_far_more c.args.elements.now c.args.end c.loop-element.element-index c.loop-element.least c.element-item.result.id c.loop-element.invariant
    (named_at _ _ _ c.loop-element-test.true c.element-item.is) c.if-element-least.false c.if-element-end.false

pub returns-then-element-least : goal.returns-then-element-least
returns-then-element-least c =
    let named = named_at c.args.elements.now c.loop-element.element-index c.element-item.result c.loop-element-test.true c.element-item.is in (
      (λ wrong. absurd (cc)),
      (λ order. absurd
          (elim c.then-element-least.branch [
            | then-element-least-via-then-element-least w ↦
                out_of_order _ _ _ _ _ c.loop-element.invariant c.loop-element-test.true named (inl w.if-element-least.true) order
            | then-element-least-via-else-element-least+then-element-end w ↦
                out_of_order _ _ _ _ _ c.loop-element.invariant c.loop-element-test.true named (inr w.if-element-end.true) order
          ])),
    )

pub returns : goal.returns
returns c = ((λ yes. in_order _ _ _ _ c.loop-element.invariant c.loop-element-test.false), (λ order. refl))
