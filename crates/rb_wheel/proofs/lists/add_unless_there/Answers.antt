-- The entry that was added is there, and the others stay.
use Rattle.std.proofs.Common.{◌∙◌, ap}
use Rattle.std.specs.FinMap as map
use Rattle.rb_wheel.proofs.Entries.{get-insert_same, get-insert_other}
use Rattle.rb_wheel.proofs.lists.add_unless_there.Goals as goal

pub returns-then-is_none-clause-here : goal.returns-then-is_none-clause-here
returns-then-is_none-clause-here g c =
    ap (λ m. map.get m c.args.slot) c.insert.ensures.content
    ∙ get-insert_same (g.E.Timer.content c.args.early.now) c.args.slot c.args.expiry

pub returns-then-is_none-clause-others : goal.returns-then-is_none-clause-others
returns-then-is_none-clause-others g c = λ other apart.
    ap (λ m. map.get m other) c.insert.ensures.content
    ∙ get-insert_other (g.E.Timer.content c.args.early.now) c.args.slot c.args.expiry other apart
