-- What a server sends each client first.
use Rattle.std.specs.Prelude.{ℕ, List, [], ◌∷◌, ◌++◌, Option, Some, None}
use Rattle.std.specs.Borrow.{Bor}

-- the greeting and a line feed, or nothing
abbrev pub sent_first : Option (Bor (List ℕ)) → List ℕ
sent_first None = []
sent_first (Some text) = text.now ++ 10 ∷ []
