-- Parts of a whole, which the passes of a queue share: who has all of them has no other pass beside it.
use Rattle.std.specs.Prelude.{ℕ, zero, suc, ◌+◌, ◌-◌}
use Rattle.rb_lock.specs.declared.pair.TheConstants.{MOST_NAMES}

-- 2 to this power
unfoldable pub two_to : ℕ → ℕ
two_to zero = 1
two_to (suc power) = two_to power + two_to power

-- what the first pass has
unfoldable pub all_parts : ℕ
all_parts = two_to MOST_NAMES

-- the least that a pass has once so many names are given: no part was halved more often
unfoldable pub least_part : ℕ → ℕ
least_part names = two_to (MOST_NAMES - names)
