-- Which request a line is, or the first of its faults.
use Rattle.std.specs.Prelude.{◌≡◌, ℕ, ◌<◌, ◌≤◌, List, [], ◌∷◌, length, All, Result, Ok, Err}
use Rattle.rb_delayed.specs.Payload.{IsPayload}
use Rattle.rb_protocol.specs.Number.{IsNumber}
use Rattle.rb_protocol.specs.Line.{spaced, words_of}
use Rattle.rb_protocol.specs.Form.{form_of, argument_words, AreRight, Takes}
use Rattle.rb_protocol.specs.declared.request.TheConstants.{MOST_LINE_BYTES}
use Rattle.rb_protocol.specs.declared.request.Request.{Request}
use Rattle.rb_protocol.specs.declared.line_fault.LineFault.{LineFault}
use Rattle.rb_protocol.specs.declared.line_fault.LineFault.TheVariants.{Line, Syntax, Number, Payload}

-- the text of a request
abbrev pub request_text : Request → List ℕ
request_text request =
    spaced ((form_of request).keyword ∷ argument_words (form_of request).arguments)

-- the line is this request: its words, separated by single spaces, with no space before or after them
pub record IsRequest (line : List ℕ) (request : Request) : Type 0 where
  pub words : words_of line ≡ (form_of request).keyword ∷ argument_words (form_of request).arguments
  pub right : AreRight (form_of request).arguments

-- no word is empty, as one between two spaces or after a last space would be
abbrev pub NoGap : List (List ℕ) → Type 0
NoGap words = All (λ word. 0 < length word) words

-- the line has a request's keyword and as many words after it as the request has, whatever they are
pub record HasWords (line keyword : List ℕ) (places : List (List ℕ)) : Type 0 where
  pub words : words_of line ≡ keyword ∷ places
  pub no_gap : NoGap places
  pub known : Takes keyword (length places)

-- the first word, if there is one, is a number
abbrev pub HasNumber : List (List ℕ) → Type 0
HasNumber [] = Unit {0}
HasNumber (word ∷ _) = (value : ℕ) × IsNumber word value

-- the second word, if there is one, is a payload
abbrev pub HasPayload : List (List ℕ) → Type 0
HasPayload [] = Unit {0}
HasPayload (_ ∷ []) = Unit {0}
HasPayload (_ ∷ payload ∷ _) = IsPayload payload

-- the line has the words of a request, but no number where one belongs
pub record LacksNumber (line : List ℕ) : Type 0 where
  pub keyword : List ℕ
  pub places : List (List ℕ)
  pub words : HasWords line keyword places
  pub no_number : ¬ HasNumber places

-- the line has the words and the number of a request, but no payload where one belongs
pub record LacksPayload (line : List ℕ) : Type 0 where
  pub keyword : List ℕ
  pub places : List (List ℕ)
  pub words : HasWords line keyword places
  pub number : HasNumber places
  pub no_payload : ¬ HasPayload places

-- The line is this request, or has this fault and none of those before it: too long, then the
-- words, then the number, then the payload.
abbrev pub IsReading : List ℕ → Result Request LineFault → Type 0
IsReading line (Err Line) = MOST_LINE_BYTES < length line
IsReading line (Err Syntax) =
    (length line ≤ MOST_LINE_BYTES)
    × ((keyword : List ℕ) (places : List (List ℕ)) → HasWords line keyword places → ⊥)
IsReading line (Err Number) = (length line ≤ MOST_LINE_BYTES) × LacksNumber line
IsReading line (Err Payload) = (length line ≤ MOST_LINE_BYTES) × LacksPayload line
IsReading line (Ok request) = (length line ≤ MOST_LINE_BYTES) × IsRequest line request
