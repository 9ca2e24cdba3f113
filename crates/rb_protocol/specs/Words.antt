-- The words into which a line was split, and what they are read as. The only public clause that
-- cites this is that of `cut_word`.
use Rattle.std.specs.Prelude.{◌≡◌, ℕ, ◌≤◌, ◌==◌, List, [], ◌∷◌, length, Option, Some, None, position, Result, Ok, Err}
use Rattle.rb_protocol.specs.Form.{form_of, argument_words, AreRight, Takes}
use Rattle.rb_protocol.specs.Line.{words_of}
use Rattle.rb_protocol.specs.Reading.{NoGap, HasNumber, HasPayload}
use Rattle.rb_protocol.specs.declared.format.TheConstants.{SPACE}
use Rattle.rb_protocol.specs.declared.line_words.WordPlaces.{WordPlaces}
use Rattle.rb_protocol.specs.declared.line_words.WordPlaces.TheVariants.{Nothing, One, Two}
use Rattle.rb_protocol.specs.declared.request.Request.{Request}
use Rattle.rb_protocol.specs.declared.line_fault.LineFault.{LineFault}
use Rattle.rb_protocol.specs.declared.line_fault.LineFault.TheVariants.{Line, Syntax, Number, Payload}
use denote.Ref.{Bor}

-- the place of the first space, if there is one
abbrev pub first_space : List ℕ → Option ℕ
first_space text = position (λ byte. byte == SPACE) text

-- the words of a text that may be missing
abbrev pub words_behind : Option (Bor (List ℕ)) → List (List ℕ)
words_behind None = []
words_behind (Some text) = words_of text.now

-- the words in the places
abbrev pub place_words : WordPlaces → List (List ℕ)
place_words Nothing = []
place_words (One word) = word.now ∷ []
place_words (Two word other) = word.now ∷ other.now ∷ []

-- no request has more words after its keyword
pub record AreFew (places : List (List ℕ)) : Type 0 where
  pub no_gap : NoGap places
  pub few : length places ≤ 2

-- the words are this request, or have this fault and none of those before it
abbrev pub IsAnswer : List ℕ → List (List ℕ) → Result Request LineFault → Type 0
IsAnswer keyword places (Ok request) =
    (keyword ≡ (form_of request).keyword)
    × (places ≡ argument_words (form_of request).arguments)
    × AreRight (form_of request).arguments
IsAnswer keyword places (Err Line) = ⊥
IsAnswer keyword places (Err Syntax) = ¬ Takes keyword (length places)
IsAnswer keyword places (Err Number) = Takes keyword (length places) × ¬ HasNumber places
IsAnswer keyword places (Err Payload) =
    Takes keyword (length places) × HasNumber places × ¬ HasPayload places
