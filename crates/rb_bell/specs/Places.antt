-- Which calls rest at a place.
use Rattle.std.specs.Prelude.{ℕ, List, slice_index_or}
use Rattle.rb_bell.specs.declared.place.Place.{Place}

-- how many of the calls that rest at a place were woken
abbrev pub woken_at : List Place → ℕ → ℕ
woken_at places at = (slice_index_or places at (record { resting = 0; woken = 0; latest = 0 })).woken
