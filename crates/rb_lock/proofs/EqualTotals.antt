-- The test whether totals are equal.
use Rattle.std.proofs.Common.{◌≡◌, ℕ, ◌==◌, Bool, true, false, refl, ap, eq-eqb, ne_eqb}
use mathlib.Core.Bool.{◌&&◌}
use mathlib.Core.Logic.{dite}
use native.Mathlib.Decide.{ℕ_discrete}
use Rattle.rb_ledger.specs.declared.totals.Totals.{Totals}
use Rattle.rb_lock.proofs.CallTotals.{same_totals}

same_number : (m n : ℕ) → true ≡ (m == n) → m ≡ n
same_number m n test = dite (ℕ_discrete m n) (λ is. is) (λ apart. absurd (cc (test, ne_eqb m n apart)))

both : (a b : Bool) → true ≡ (a && b) → (true ≡ a) × (true ≡ b)
both true b test = (refl, test)
both false b test = absurd (cc test)

abbrev test_of : Totals → Totals → Bool
test_of one other = (one.calls == other.calls) && ((one.offered == other.offered) && (one.given == other.given))

pub equal_totals : (one other : Totals) → true ≡ test_of one other → one ≡ other
equal_totals one other test =
    let first = both (one.calls == other.calls) ((one.offered == other.offered) && (one.given == other.given)) test in
    let rest = both (one.offered == other.offered) (one.given == other.given) first.1 in
    same_totals one other (same_number one.calls other.calls first.0) (same_number one.offered other.offered rest.0) (same_number one.given other.given rest.1)

pub other_totals : (one other : Totals) → false ≡ test_of one other → ¬ (one ≡ other)
other_totals one other test same =
    let calls : (one.calls == other.calls) ≡ true = eq-eqb one.calls other.calls (ap (λ (t : Totals). t.calls) same) in
    let offered : (one.offered == other.offered) ≡ true = eq-eqb one.offered other.offered (ap (λ (t : Totals). t.offered) same) in
    let given : (one.given == other.given) ≡ true = eq-eqb one.given other.given (ap (λ (t : Totals). t.given) same) in
    let all : test_of one other ≡ true = λ i. calls i && (offered i && given i) in
    cc (test, all)
