-- How words make a line, and what ends it.
use Rattle.std.specs.Prelude.{◌≢◌, ℕ, ◌==◌, List, All}
use Rattle.std.specs.List.{join_with_byte, slice_split}
use Rattle.rb_protocol.specs.declared.format.TheConstants.{SPACE, LINE_FEED}

-- the words in order, separated by single spaces
abbrev pub spaced : List (List ℕ) → List ℕ
spaced words = join_with_byte SPACE words

-- the parts of a line between its spaces
abbrev pub words_of : List ℕ → List (List ℕ)
words_of line = slice_split (λ byte. byte == SPACE) line

-- no byte of the text is a line feed
abbrev pub HasNoLineFeed : List ℕ → Type 0
HasNoLineFeed text = All (λ byte. byte ≢ LINE_FEED) text
