-- One element more gets its first expiry, and those behind it are as they were.
use Rattle.std.proofs.Common.{◌<◌, length, get_or, refl, ap, arith}
use Rattle.rb_history.proofs.Settlings.{elements_more}
use Rattle.rb_history.proofs.firsts.Firsts.settle_elements.Goals as goal

pub loop-element-preserved : goal.loop-element-preserved
loop-element-preserved c =
    let within : c.loop-element.element-index < length c.loop-element.elements = omega (arith, c.loop-element-test.true, c.loop-element.auto.elements) in
    elements_more _ c.loop-element.elements _ _ c.loop-element.element-index _ _ c.loop-element.invariant within
    (ap (get_or c.loop-element.elements c.loop-element.element-index) c.element-item.is) refl refl refl refl refl c.in_ok-element.ensures
