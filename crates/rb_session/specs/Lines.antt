-- How a stream is cut into lines.
use Rattle.std.specs.Prelude.{◌==◌, ℕ, List, [], ◌∷◌, if◌then◌else◌}
use Rattle.rb_protocol.specs.declared.format.TheConstants.{CARRIAGE_RETURN}

-- the line that these bytes are before a line feed: one carriage return directly before it belongs to
-- the line's end
abbrev pub line_of : List ℕ → List ℕ
line_of [] = []
line_of (byte ∷ []) = if byte == CARRIAGE_RETURN then [] else byte ∷ []
line_of (byte ∷ next ∷ rest) = byte ∷ line_of (next ∷ rest)
