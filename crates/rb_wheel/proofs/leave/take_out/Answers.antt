-- The entry that was taken out is gone, and the others stay. A timer with no entry has none at the slot.
use Rattle.std.proofs.Common.{◌≡◌, ◌∙◌, ℕ, None, ap, arith}
use Rattle.std.specs.FinMap as map
use Rattle.std.specs.FinMap.{empty_of_len, get-empty}
use Rattle.std.proofs.lemmas.Bool.Decides.{nat_tests}
use Rattle.std.specs.Ordering.{nat_cmp}
use Rattle.rb_timer.specs.Content.{Content}
use Rattle.rb_wheel.proofs.Entries.{get-remove_same, get-remove_other}
use Rattle.rb_wheel.proofs.leave.take_out.Goals as goal

none_at : (content : Content) → map.len content ≡ 0 → (slot : ℕ) → map.get content slot ≡ None
none_at content none slot = ap (λ m. map.get m slot) (empty_of_len content none) ∙ get-empty {X = ℕ} nat_cmp slot

pub returns-then-len-eq0-clause-here : goal.returns-then-len-eq0-clause-here
returns-then-len-eq0-clause-here g c =
    none_at (g.E.Timer.content c.args.early.now) (grind (arith, nat_tests, c.if-len-eq0.true, c.len.ensures)) c.args.slot

pub returns-then-is_some-clause-here : goal.returns-then-is_some-clause-here
returns-then-is_some-clause-here g c =
    ap (λ m. map.get m c.args.slot) c.remove.ensures.content
    ∙ get-remove_same (g.E.Timer.content c.args.early.now) c.args.slot

pub returns-then-is_some-clause-others : goal.returns-then-is_some-clause-others
returns-then-is_some-clause-others g c = λ other apart.
    ap (λ m. map.get m other) c.remove.ensures.content
    ∙ get-remove_other (g.E.Timer.content c.args.early.now) c.args.slot other apart
