-- Moments are numbers of nanoseconds from 0 to 2^64 - 1. A delay is measured from a moment.
use Rattle.std.specs.Prelude.{ℕ, ℤ, pos, ◌-ℤ◌, ◌≤ℤ◌}

-- how long after `now` the expiry comes; below zero if it has passed
abbrev pub delay_of : ℕ → ℕ → ℤ
delay_of expiry now = pos expiry -ℤ pos now

-- the delay has passed: it is zero or less
abbrev pub IsExpired : ℕ → ℕ → Type 0
IsExpired expiry now = delay_of expiry now ≤ℤ pos 0
