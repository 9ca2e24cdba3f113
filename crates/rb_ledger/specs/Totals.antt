-- Sums of totals, which stay at the greatest count.
use Rattle.std.specs.Prelude.{ℕ, ◌+◌, min}
use Rattle.rb_ledger.specs.declared.totals.Totals.{Totals}
use Rattle.rb_ledger.specs.declared.totals.TheConstants.{GREATEST_COUNT}

-- the sum, or the greatest count if that is less
abbrev pub capped_sum : ℕ → ℕ → ℕ
capped_sum one other = min (one + other) GREATEST_COUNT

-- no call, and no element
abbrev pub nothing : Totals
nothing = record { calls = 0; offered = 0; given = 0 }

-- one call that offered and gave this many elements
abbrev pub one_call : ℕ → ℕ → Totals
one_call offered given = record { calls = 1; offered = offered; given = given }

-- both together
abbrev pub total_of : Totals → Totals → Totals
total_of one other = record {
  calls = capped_sum one.calls other.calls;
  offered = capped_sum one.offered other.offered;
  given = capped_sum one.given other.given;
}
