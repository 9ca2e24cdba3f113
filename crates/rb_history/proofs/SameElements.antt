-- Elements are the same if their fields are.
use Rattle.std.proofs.Common.{◌≡◌, ℕ, ◌≤◌}
use mathlib.Core.HLevel.{Σ_prop_path}
use Rattle.std.proofs.Props.{props}
use Rattle.rb_delayed.specs.declared.element.TheConstants.{GREATEST_ATTEMPT}
use Rattle.rb_delayed.specs.declared.element.Element.{Element}

-- elements with the same fields are one
pub same_element : (one other : Element) → one.id ≡ other.id → one.expiry ≡ other.expiry → one.origin ≡ other.origin → one.first ≡ other.first
    → one.attempt ≡ other.attempt → one.payload ≡ other.payload → one ≡ other
same_element one other id expiry origin first attempt payload =
    let pairs : ◌≡◌ {A = (n : ℕ) × ((1 ≤ n) × (n ≤ GREATEST_ATTEMPT))}
    (one.attempt, (one.attempt_from_one, one.attempt_in_range)) (other.attempt, (other.attempt_from_one, other.attempt_in_range)) =
    Σ_prop_path (λ n. hlevel props) attempt in
    λ i. record {
      id = id i;
      expiry = expiry i;
      origin = origin i;
      first = first i;
      attempt = (pairs i).0;
      payload = payload i;
      attempt_from_one = (pairs i).1.0;
      attempt_in_range = (pairs i).1.1;
    }
