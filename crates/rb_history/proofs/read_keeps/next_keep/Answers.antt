-- An id below the least or not below the end is out of order, so the line keeps no element here.
use Rattle.std.proofs.Common.{inl, inr}
use Rattle.rb_history.proofs.KeepLines.{keeps_none}
use Rattle.rb_history.proofs.read_keeps.next_keep.Goals as goal

pub returns-then-element-least-clause-none : goal.returns-then-element-least-clause-none
returns-then-element-least-clause-none c =
    keeps_none c.args.version c.args.least c.args.end _ c.in_ok-element.element c.in_ok-element.ensures.some c.in_ok-element.ensures.right (inl c.if-element-least.true)

pub returns-then-element-end-clause-none : goal.returns-then-element-end-clause-none
returns-then-element-end-clause-none c =
    keeps_none c.args.version c.args.least c.args.end _ c.in_ok-element.element c.in_ok-element.ensures.some c.in_ok-element.ensures.right (inr c.if-element-end.true)
