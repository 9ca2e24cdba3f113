-- The word with its id and `yes` or `no` were pushed in turn.
use Rattle.std.proofs.Common.{◌≡◌, ◌∷◌, codes, decimal, if◌then◌else◌}
use Rattle.rb_protocol.specs.declared.format.TheConstants.{SPACE}
use Rattle.rb_history.proofs.Lines.{remove_line}
use Rattle.rb_history.proofs.Outlets.{grows_as, grows_then}
use Rattle.rb_history.proofs.text.push_remove.Goals.{then-found, else-found}
use Rattle.rb_history.proofs.text.push_remove.Goals as goal

pub returns : goal.returns
returns g c =
    let word : c.if-found.push.now ≡ SPACE ∷ (if c.args.found then codes "yes" else codes "no") =
    elim c.if-found.branch [ then-found w ↦ cc | else-found w ↦ cc ] in
    grows_as g.W.Write c.args.outlet.now _ _ c.push.new.self
    (remove_line c.args.found (codes " remove") (decimal c.args.id) c.if-found.push.now word)
    (grows_then g.W.Write c.args.outlet.now c.push_numbers.new.outlet c.push.new.self _ _ c.push_numbers.ensures.words c.push.ensures)
