-- How a number is written: in decimal digits, with no sign and no leading zero.
use Rattle.std.specs.Prelude.{◌≡◌, ℕ, ◌^◌, ◌<◌, List, decimal}

-- the word is the number, which is at most 2^64 - 1
abbrev pub IsNumber : List ℕ → ℕ → Type 0
IsNumber word number = (word ≡ decimal number) × (number < 2 ^ 64)
