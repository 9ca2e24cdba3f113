-- Tests that are made one after the other, each with the reason if it fails.
use Rattle.std.specs.Prelude.{◌≡◌, ◌⊎◌}

-- a test with the reason if it fails, and the tests after it
abbrev pub Test : {R : Type 0} → Type 0 → R → (R → Type 0) → R → Type 0
Test holds named others reason = (¬ holds × (reason ≡ named)) ⊎ (holds × others reason)

-- no test is left that could fail
abbrev pub NoTest : {R : Type 0} → R → Type 0
NoTest reason = ⊥
