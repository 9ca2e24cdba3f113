-- A sum that was made is within the greatest moment, and the offer's expiry is that sum.
use Rattle.std.proofs.Common.{◌≡◌, ℕ, ◌+◌, ◌≤◌, sym, subst, arith, true}
use Rattle.std.proofs.lemmas.Bool.Decides.{nat_tests}
use Rattle.std.specs.Prelude.{MatchBool, nat_le}
use Rattle.rb_delayed.specs.declared.moment.TheConstants.{GREATEST_MOMENT}
use Rattle.rb_session.specs.Progress.{OffersAt}
use Rattle.rb_session.proofs.calls.offer.Goals as goal

-- a test that is passed leaves its first case
within_range : (moment : ℕ) (Then Else : Type 0) → moment ≤ GREATEST_MOMENT → Then
    → MatchBool (nat_le moment GREATEST_MOMENT) Then Else
within_range moment Then Else within holds =
    let test : nat_le moment GREATEST_MOMENT ≡ true = grind (arith, nat_tests, within) in
    subst (λ b. MatchBool b Then Else) (sym test) holds

pub returns-in-Some : goal.returns-in-Some
returns-in-Some g c =
    within_range (c.args.now + c.args.delay) _ _ c.in-Some.ensures.0
    (subst
    (λ expiry. OffersAt g.D.Desk.Steps (g.D.Desk.state c.args.desk.now) c.args.now expiry c.args.payload
    c.offer_at.result (g.D.Desk.state c.offer_at.new.desk))
    c.in-Some.ensures.1 c.offer_at.ensures)
