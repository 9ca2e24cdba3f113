-- Words that follow another. No public clause cites this module.
use Rattle.std.specs.Prelude.{ℕ, List, [], ◌∷◌, ◌++◌}
use Rattle.rb_protocol.specs.declared.format.TheConstants.{SPACE}

-- words, each with a space in front
abbrev pub tails : List (List ℕ) → List ℕ
tails [] = []
tails (word ∷ words) = SPACE ∷ (word ++ tails words)
