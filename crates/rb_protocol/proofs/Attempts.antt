-- How long an attempt's number is.
use Rattle.std.proofs.Common.{ℕ, ◌≤◌, length, decimal, lit<, arith}
use Rattle.std.proofs.lemmas.Fmt.{length-decimal-le}

-- an attempt has at most four digits
pub attempt_digits : (attempt : ℕ) → attempt ≤ 1000 → length (decimal attempt) ≤ 4
attempt_digits attempt h = length-decimal-le 4 attempt (lit< tt) (omega arith) (omega arith)
