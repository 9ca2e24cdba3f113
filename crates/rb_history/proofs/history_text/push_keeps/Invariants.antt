-- The elements so far were pushed, and are in their ranges.
use Rattle.std.proofs.Common.{map, take}
use Rattle.rb_history.specs.EventText.{keep_words}
use Rattle.rb_history.specs.HistoryText.{lines_text}
use Rattle.rb_history.specs.Outlet.{Grows}
use Rattle.rb_history.specs.Ranges.{AreRightElements}
use Rattle.rb_history.specs.declared.version.Version.TheVariants.{Three}
use Rattle.rb_history.proofs.history_text.push_keeps.Given as goal

abbrev pub invariant-loop-element : goal.invariant-loop-element
invariant-loop-element g l = record {
  lines : Grows g.W.Write l.fn.outlet (lines_text (map (keep_words Three) (take l.element-index l.elements))) l.outlet;
  right : AreRightElements (take l.element-index l.elements);
}
