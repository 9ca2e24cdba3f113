-- The base passes no entry, and the least entry is due, or none is.
use Rattle.std.proofs.Common.{rules, ◌≤◌, ◌∙◌, None, IfSome, sym, ap, subst}
use Rattle.rb_timer.specs.Slots.{content_of, get-content_of}
use Rattle.rb_timer.proofs.Least.{IsDueEntry-from_least}
use Rattle.rb_wheel.specs.Lists.{slot_expiry}
use Rattle.rb_wheel.proofs.wheel_timer.WheelAnyTimer.due.Goals as goal

pub returns-in_err-least-clause-due : goal.returns-in_err-least-clause-due
returns-in_err-least-clause-due g c =
    IsDueEntry-from_least (content_of c.args.self.now) c.args.now None c.from_residual.result c.in_err-least.ensures (search rules)

pub advance-requires-clause-least : goal.advance-requires-clause-least
advance-requires-clause-least g c = λ slot lies.
    subst (λ o. IfSome o (λ expiry. c.in_ok-least.least.1 ≤ expiry))
    (get-content_of c.args.self.now slot ∙ ap (λ es. slot_expiry es slot) (sym c.self.view_is)) (c.in_ok-least.ensures.least slot)
