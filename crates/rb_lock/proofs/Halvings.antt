-- How parts are halved: what is left while there are names to give.
use Rattle.std.proofs.Common.{◌≡◌, ℕ, zero, suc, ◌+◌, ◌-◌, ◌<◌, ◌≤◌, refl, ap, sym, ◌∙◌, arith, Bool, true, false, lt_of_not-le}
use mathlib.Core.Logic.{dite}
use native.Mathlib.Decide.{dec_le}
use Rattle.rb_lock.specs.Parts.{two_to, all_parts, least_part}
use Rattle.rb_lock.specs.Views.{weight}
use Rattle.rb_lock.specs.Rule.{HasPart}
use Rattle.rb_lock.specs.declared.pair.TheConstants.{MOST_NAMES}
use Rattle.rb_lock.specs.declared.view.View.{View}

two_to_next : (power : ℕ) → two_to (suc power) ≡ two_to power + two_to power
unfolding two_to
two_to_next power = refl

two_to_some : (power : ℕ) → 1 ≤ two_to power
unfolding two_to
two_to_some zero = omega arith
two_to_some (suc power) = omega (arith, two_to_some power)

two_to_more : (low high : ℕ) → low ≤ high → two_to low ≤ two_to high
two_to_more low zero less = let e : low ≡ zero = omega arith in omega (arith, ap two_to e)
two_to_more low (suc high) less =
    dite (dec_le low high)
    (λ below. omega (arith, two_to_more low high below, two_to_next high))
    (λ above. let over = lt_of_not-le above in let e : low ≡ suc high = omega arith in omega (arith, ap two_to e))

-- a name more halves the least part
pub halved : (names : ℕ) → names < MOST_NAMES → least_part (names + 1) + least_part (names + 1) ≡ least_part names
unfolding least_part
halved names few =
    let e : MOST_NAMES - names ≡ suc (MOST_NAMES - (names + 1)) = omega arith in
    sym (ap two_to e ∙ two_to_next (MOST_NAMES - (names + 1)))

pub some_part : (names : ℕ) → 1 ≤ least_part names
unfolding least_part
some_part names = two_to_some (MOST_NAMES - names)

pub part_falls : (names more : ℕ) → names ≤ more → least_part more ≤ least_part names
unfolding least_part
part_falls names more later = two_to_more (MOST_NAMES - more) (MOST_NAMES - names) (omega arith)

all_is : least_part 0 ≡ all_parts
unfolding least_part all_parts
all_is = ap two_to (omega arith)

-- all parts are more than the least when the first name is given
pub first_part : least_part 1 ≤ all_parts
first_part = omega (arith, halved 0 (omega arith), all_is)

-- what a view has is enough when more names are given
pub part_stays : (live : Bool) (v : View) (names more : ℕ) → names ≤ more → HasPart live names v → HasPart live more v
part_stays true v names more later part = omega (arith, part_falls names more later, part)
part_stays false v names more later part = part

-- a view without parts has no name
pub nameless : (live : Bool) (v : View) (names : ℕ) → HasPart live names v → v.parts ≡ 0 → (name : ℕ) → weight name v ≡ 0
nameless true v names part none name = absurd (omega (arith, part, none, some_part names))
nameless false v names part none name = part name
