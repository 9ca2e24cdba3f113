-- What the lines after a header are read as. No public clause cites this module.
use Rattle.std.specs.Prelude.{◌≡◌, ℕ, ◌+◌, ◌<◌, ◌≤◌, ◌⊎◌, List, [], ◌∷◌, ◌++◌, length, map}
use Rattle.rb_delayed.specs.declared.element.Element.{Element}
use Rattle.rb_queue.specs.Opening.{AreInOrder}
use Rattle.rb_queue.specs.declared.opening.Opening.{Opening}
use Rattle.rb_queue.specs.declared.opening.TheConstants.{GREATEST_OPENING_ID, MOST_OPENING_ELEMENTS}
use Rattle.rb_history.specs.EventText.{event_words, keep_words, end_words}
use Rattle.rb_history.specs.HistoryText.{line_text, lines_text, opening_lines}
use Rattle.rb_protocol.specs.Line.{HasNoLineFeed}
use Rattle.rb_history.specs.OpeningReading.{MayOpen, numbers_words}
use Rattle.rb_history.specs.Ranges.{IsWord, IsRightElement, IsRightOpening, IsRightHistory, AreRightElements}
use Rattle.rb_history.specs.Readings.{MayBegin}
use Rattle.rb_history.specs.TextFaults.{HasOtherKeep, OpenFault, KeepFault, BodyFault}
use Rattle.rb_history.specs.declared.history.History.{History}
use Rattle.rb_history.specs.declared.read_opening.OpenLine.{OpenLine}
use Rattle.rb_history.specs.declared.version.Version.{Version}
use Rattle.rb_history.specs.declared.version.Version.TheVariants.{One}
use Rattle.rb_history.specs.declared.text_fault.TextFault.{TextFault}
use Rattle.rb_history.specs.declared.text_fault.TextFault.TheVariants.{At, Memory}
use Rattle.rb_history.specs.declared.text_fault.TextReason.{TextReason}
use Rattle.rb_history.specs.declared.text_fault.TextReason.TheVariants as reasons
use Rattle.rb_history.specs.declared.write.TheConstants.{MOST_EVENTS}

-- the words are the line of this element, which may come next
pub record KeepsNext (version : Version) (least end : ℕ) (words : List (List ℕ)) (element : Element) : Type 0 where
  pub words_are : words ≡ keep_words version element
  pub right : IsRightElement element
  pub up : least ≤ element.id
  pub low : element.id < end

-- the words are the line of no element that may come next
abbrev pub KeepsNone : Version → ℕ → ℕ → List (List ℕ) → Type 0
KeepsNone version least end words =
    (element : Element) → IsRightElement element → words ≡ keep_words version element
    → least ≤ element.id → element.id < end → ⊥

-- the next lines have these elements, as many as were announced
pub record KeepsAll (version : Version) (end count : ℕ) (text : List ℕ) (kept : List Element)
    (rest : List ℕ) : Type 0 where
  pub split : text ≡ lines_text (map (keep_words version) kept) ++ rest
  pub order : AreInOrder kept end
  pub right : AreRightElements kept
  pub counted : length kept ≡ count

-- after some of the elements, the next one's line has a fault
pub record StopsKeeping (version : Version) (end count : ℕ) (text : List ℕ) (line : ℕ)
    (reason : TextReason) : Type 0 where
  pub kept : List Element
  pub rest : List ℕ
  pub split : text ≡ lines_text (map (keep_words version) kept) ++ rest
  pub order : AreInOrder kept end
  pub right : AreRightElements kept
  pub fewer : length kept < count
  pub place : line ≡ 3 + length kept
  pub fault : ((reason ≡ reasons.End) × HasNoLineFeed rest)
      ⊎ ((reason ≡ reasons.Opening) × HasOtherKeep version end kept rest)

abbrev pub KeepsFail : Version → ℕ → ℕ → List ℕ → TextFault → Type 0
KeepsFail version end count text (At line reason) = StopsKeeping version end count text line reason
KeepsFail version end count text Memory = Unit {0}

-- the first line has these numbers of an opening
pub record TellsNumbers (version : Version) (text : List ℕ) (told : OpenLine) (rest : List ℕ) : Type 0 where
  pub split : text ≡ line_text (numbers_words told.next_id told.last_at told.count) ++ rest
  pub next : told.next_id ≤ GREATEST_OPENING_ID
  pub most : told.count ≤ MOST_OPENING_ELEMENTS
  pub last : IsWord told.last_at
  pub opens : MayOpen version told.next_id told.last_at told.count

abbrev pub NumbersFail : Version → List ℕ → TextFault → Type 0
NumbersFail version text (At line reason) = OpenFault version text line reason
NumbersFail version text Memory = Unit {0}

-- the lines are those of this opening
pub record TellsOpening (version : Version) (text : List ℕ) (opening : Opening) (rest : List ℕ) : Type 0 where
  pub split : text ≡ lines_text (opening_lines version opening) ++ rest
  pub begins : MayBegin version opening
  pub right : IsRightOpening opening

-- a line of the opening has this fault, in a version that has such lines
abbrev pub FaultOfOpening : Version → List ℕ → ℕ → TextReason → Type 0
FaultOfOpening One text line reason = ⊥
FaultOfOpening version text line reason = OpenFault version text line reason ⊎ KeepFault version text line reason

abbrev pub OpeningFails : Version → List ℕ → TextFault → Type 0
OpeningFails version text (At line reason) = FaultOfOpening version text line reason
OpeningFails version text Memory = Unit {0}

-- the number of the line after the opening's
abbrev pub line_behind : Version → Opening → ℕ
line_behind One opening = 2
line_behind version opening = 3 + length opening.elements

-- the lines are those of this history; first expiries that the version leaves out may be any
pub record TellsRun (version : Version) (text : List ℕ) (history : History) : Type 0 where
  pub split : text ≡ lines_text (opening_lines version history.opening)
      ++ lines_text (map (event_words version) history.events ++ (end_words (length history.events) ∷ []))
  pub begins : MayBegin version history.opening
  pub few : length history.events ≤ MOST_EVENTS
  pub right : IsRightHistory history

abbrev pub RunFails : Version → List ℕ → TextFault → Type 0
RunFails version text (At line reason) = BodyFault version text line reason
RunFails version text Memory = Unit {0}
