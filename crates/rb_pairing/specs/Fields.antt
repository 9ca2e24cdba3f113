-- What a node says, as options. In the code each takes one word.
use Rattle.std.specs.Prelude.{ℕ, Option}

-- the expiry of a slot's entry, if it has one, and the entry's links
pub record Fields : Type 0 where
  pub expiry : Option ℕ
  pub child : Option ℕ
  pub next : Option ℕ
  pub previous : Option ℕ
