-- The line of one element more goes behind those before it.
use Rattle.std.proofs.Common.{ap, map, subst, take_all}
use Rattle.rb_history.specs.EventText.{keep_words}
use Rattle.rb_history.specs.HistoryText.{lines_text}
use Rattle.rb_history.specs.Ranges.{AreRightElements, IsRightElement}
use Rattle.rb_history.specs.declared.version.Version.TheVariants.{Three}
use Rattle.rb_history.proofs.Lines.{lines_more}
use Rattle.rb_history.proofs.Outlets.{grows_as, grows_then}
use Rattle.rb_history.proofs.RightValues.{right_more}
use Rattle.rb_history.proofs.history_text.push_keeps.Goals as goal

pub loop-element-preserved : goal.loop-element-preserved
loop-element-preserved g c = record {
  lines = grows_as g.W.Write c.args.outlet.now _ _ c.push_keep.new.outlet
      (lines_more (keep_words Three) c.args.elements.now c.loop-element.element-index c.element-item.result c.loop-element-test.true c.element-item.is)
      (grows_then g.W.Write c.args.outlet.now c.loop-element.outlet c.push_keep.new.outlet _ _ c.loop-element.invariant.lines c.push_keep.ensures.line);
  right = right_more IsRightElement c.args.elements.now c.loop-element.element-index c.element-item.result c.loop-element-test.true c.element-item.is
      c.loop-element.invariant.right c.push_keep.ensures.right;
}

pub returns-clause-lines : goal.returns-clause-lines
returns-clause-lines g c = grows_as g.W.Write c.args.outlet.now _ _ c.loop-element.outlet
    (ap (λ items. lines_text (map (keep_words Three) items)) (take_all c.loop-element.element-index c.args.elements.now c.loop-element-test.false))
    c.loop-element.invariant.lines

pub returns-clause-right : goal.returns-clause-right
returns-clause-right g c =
    subst AreRightElements (take_all c.loop-element.element-index c.args.elements.now c.loop-element-test.false) c.loop-element.invariant.right
