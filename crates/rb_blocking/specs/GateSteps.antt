-- What happens at a gate, in its order.
use Rattle.std.specs.Prelude.{ℕ, zero, suc, ◌+◌, ◌-◌, ◌^◌, min, Bool, true, List, [], ◌∷◌, ◌++◌}

-- The gate is asked for a turn, is told how many the wait has made, and answers; or it sees that the call has rested, and
-- how often its pass had tried by then.
pub data GateStep : Type 0 where
  Asked : ℕ → Bool → GateStep
  HasRested : ℕ → GateStep

-- these steps more happened at a gate
abbrev pub Sees : {G : Type 0} → (G → List GateStep → Type 0) → G → G → List GateStep → Type 0
Sees has_seen old new steps = (before : List GateStep) → has_seen old before → has_seen new (before ++ steps)

-- what is told of a number of tries or turns: it, or 2^64 - 1 if that is less
abbrev pub told : ℕ → ℕ
told number = min number (2 ^ 64 - 1)

-- What happens in the first turns of a wait, before which its pass had tried so often: the gate lets it go on, and it rests,
-- one try behind the rest before.
abbrev pub turns_of : ℕ → ℕ → List GateStep
turns_of before zero = []
turns_of before (suc tries) = turns_of before tries ++ Asked (told tries) true ∷ HasRested (before + suc tries) ∷ []
