-- The elements so far are settled.
use Rattle.rb_history.proofs.Settlings.{ElementsSettled}
use Rattle.rb_history.proofs.firsts.Firsts.settle_elements.Given as goal

abbrev pub invariant-loop-element : goal.invariant-loop-element
invariant-loop-element l = ElementsSettled l.fn.elements l.self l.elements l.element-index
