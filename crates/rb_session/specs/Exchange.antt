-- What came from a reader, and what a writer was sent.
use Rattle.std.specs.Prelude.{◌≡◌, ℕ, List, ◌++◌, Option, Some}
use Rattle.std.specs.Io.KnownBytes.{Appends, Consumes, IsAtEnd}

-- These bytes came and these were sent, and of the two this holds. A device that tells its bytes had what
-- came at its front, or has what was sent at its end. From what the reader had left to what it has left, and
-- from what the writer had got to what it has got.
pub record Exchanges (left left' got got' : Option (List ℕ)) (Holds : List ℕ → List ℕ → Type 0) : Type 0 where
  pub came : List ℕ
  pub sent : List ℕ
  pub consumed : Consumes left left' came
  pub appended : Appends got got' sent
  pub holds : Holds came sent

-- the law of readers that tell their bytes: these were what came, and then what is left
abbrev pub CameFirst : Type 0
CameFirst = (stream came : List ℕ) (left' : Option (List ℕ)) → Consumes (Some stream) left' came
    → ((rest : List ℕ) × (left' ≡ Some rest) × (stream ≡ came ++ rest)) × (IsAtEnd left' → stream ≡ came)

-- the law of writers that tell what they have got: that is what they had got, and then what was sent
abbrev pub SentLast : Type 0
SentLast = (before sent : List ℕ) (got' : Option (List ℕ))
    → Appends (Some before) got' sent → got' ≡ Some (before ++ sent)
