-- The head of a cell's list is a slot of that cell; with no head the cell is vacant.
use Rattle.std.proofs.Common.{◌∙◌, ap, sym}
use Rattle.rb_wheel.specs.WheelLinks.{head_at}
use Rattle.rb_wheel.proofs.HeldCells.{first_slot}
use Rattle.rb_wheel.proofs.lists.Lists.first_in.Goals as goal

pub returns : goal.returns
returns c =
    let lists = c.self.inside in
    first_slot lists.heads.items lists.nodes.items c.args.self.now c.self.invariant c.self.view_is
    c.args.cell c.head_of.result (sym (c.head_of.ensures ∙ ap (λ hs. head_at hs c.args.cell) c.deref.ensures.value))
