-- What a writer has got only grows.
use Rattle.std.specs.Prelude.{◌≡◌, ℕ, List, [], ◌++◌, Option, Some, None}
use Rattle.std.specs.Io.KnownBytes.{Appends, append_known}
use Rattle.std.proofs.Common.{sym, ap, ◌∙◌, append-nil}
use Rattle.std.proofs.KnownBytes.{Appends-nil, Appends-trans}

-- known bytes stay at the front
abbrev pub KeepsFront : Option (List ℕ) → Option (List ℕ) → Type 0
KeepsFront old new = (more : List ℕ) × Appends old new more

-- by nothing at all
pub grows_same : (known : Option (List ℕ)) → KeepsFront known known
grows_same known = ([], Appends-nil known)

-- and then by more
pub grows_on : (one two three : Option (List ℕ)) → KeepsFront one two → KeepsFront two three → KeepsFront one three
grows_on one two three (some, first) (more, second) = (some ++ more, Appends-trans one two three some more first second)

-- a writer has got all that was sent, if nothing of it is gathered
pub all_got : (old got : Option (List ℕ)) (gathered text : List ℕ) → gathered ≡ []
    → Appends old (append_known got gathered) text → Appends old got text
all_got None got gathered text none sent = tt
all_got (Some xs) None gathered text none sent = absurd sent
all_got (Some xs) (Some ys) gathered text none sent = sym (append-nil ys) ∙ ap (λ b. ys ++ b) (sym none) ∙ sent
