-- Why a text is not read: its first fault, with the lines before it.
use Rattle.std.specs.Prelude.{◌≡◌, ◌≢◌, ℕ, ◌+◌, ◌<◌, ◌≤◌, ◌⊎◌, List, [], ◌∷◌, ◌++◌, length, map, Result, Ok, Err}
use Rattle.rb_protocol.specs.Line.{words_of, HasNoLineFeed}
use Rattle.rb_protocol.specs.declared.format.TheConstants.{LINE_FEED}
use Rattle.rb_delayed.specs.declared.element.Element.{Element}
use Rattle.rb_queue.specs.Opening.{AreInOrder}
use Rattle.rb_queue.specs.declared.event.Event.{Event}
use Rattle.rb_queue.specs.declared.opening.Opening.{Opening}
use Rattle.rb_queue.specs.declared.opening.TheConstants.{GREATEST_OPENING_ID, MOST_OPENING_ELEMENTS}
use Rattle.rb_history.specs.OpeningReading.{IsOpenLine, HasNoHeader, MayOpen, numbers_words}
use Rattle.rb_history.specs.EventText.{event_words, header_words, keep_words, end_words}
use Rattle.rb_history.specs.HistoryText.{line_text, lines_text, opening_lines}
use Rattle.rb_history.specs.Ranges.{IsWord, IsRightElement, IsRightEvent}
use Rattle.rb_history.specs.Ranges.{IsRightOpening, AreRightElements, AreRightEvents}
use Rattle.rb_history.specs.declared.version.Version.{Version}
use Rattle.rb_history.specs.declared.version.Version.TheVariants.{One}
use Rattle.rb_history.specs.declared.text_fault.TextFault.{TextFault}
use Rattle.rb_history.specs.declared.text_fault.TextFault.TheVariants.{At, Memory}
use Rattle.rb_history.specs.declared.text_fault.TextReason.{TextReason}
use Rattle.rb_history.specs.declared.text_fault.TextReason.TheVariants as reasons
use Rattle.rb_history.specs.declared.text_fault.TextReason.TheVariants.{Header, Line, Many, Count, Trailing, End}
use Rattle.rb_history.specs.declared.write.TheConstants.{MOST_EVENTS}

-- the text has a whole line next, which is neither an event's nor the last
pub record HasOtherLine (version : Version) (text : List ℕ) : Type 0 where
  pub line : List ℕ
  pub behind : List ℕ
  pub split : text ≡ line ++ (LINE_FEED ∷ behind)
  pub whole : HasNoLineFeed line
  pub no_event : (event : Event) → IsRightEvent event → words_of line ≢ event_words version event
  pub no_end : (count : ℕ) → IsWord count → words_of line ≢ end_words count

-- the next line, of this number, has this fault, after `count` events were read
abbrev pub NextFault : Version → ℕ → ℕ → List ℕ → ℕ → TextReason → Type 0
NextFault version count here text line End = (line ≡ here) × HasNoLineFeed text
NextFault version count here text line Line = (line ≡ here) × HasOtherLine version text
NextFault version count here text line Many =
    (line ≡ here) × (count ≡ MOST_EVENTS)
    × ((event : Event) × (behind : List ℕ) × IsRightEvent event
    × (text ≡ line_text (event_words version event) ++ behind))
NextFault version count here text line Count =
    (line ≡ here)
    × ((told : ℕ) × (behind : List ℕ) × IsWord told × (text ≡ line_text (end_words told) ++ behind) × (told ≢ count))
NextFault version count here text line Trailing =
    (line ≡ here + 1) × ((behind : List ℕ) × (text ≡ line_text (end_words count) ++ behind) × (behind ≢ []))
NextFault version count here text line reasons.Opening = ⊥
NextFault version count here text line Header = ⊥

-- After some events, the first of which is on line `first`, the text has this fault on line `line`.
pub record EventsFault (version : Version) (text : List ℕ) (first line : ℕ) (reason : TextReason) : Type 0 where
  pub events : List Event
  pub rest : List ℕ
  pub split : text ≡ lines_text (map (event_words version) events) ++ rest
  pub right : AreRightEvents events
  pub few : length events ≤ MOST_EVENTS
  pub fault : NextFault version (length events) (first + length events) rest line reason

-- the text is the lines of these events and the last line, or has a first fault
abbrev pub ReadsEvents : Version → List ℕ → ℕ → Result (List Event) TextFault → Type 0
ReadsEvents version text first (Ok events) =
    (length events ≤ MOST_EVENTS) × AreRightEvents events
    × (text ≡ lines_text (map (event_words version) events ++ (end_words (length events) ∷ [])))
ReadsEvents version text first (Err (At line reason)) = EventsFault version text first line reason
ReadsEvents version text first (Err Memory) = Unit {0}

-- a last line ends the text, or has another number, or something follows it
abbrev pub EndsWell : {X : Type 0} → ℕ → ℕ → List ℕ → ℕ → Result X TextFault → Type 0
EndsWell told count behind here (Ok x) = (told ≡ count) × (behind ≡ [])
EndsWell told count behind here (Err fault) =
    ((told ≢ count) × (fault ≡ At here Count)) ⊎ ((told ≡ count) × (behind ≢ []) × (fault ≡ At (here + 1) Trailing))

-- the text has a whole line next, which is no first line of an opening in this version
pub record HasOtherOpen (version : Version) (text : List ℕ) : Type 0 where
  pub line : List ℕ
  pub behind : List ℕ
  pub split : text ≡ line ++ (LINE_FEED ∷ behind)
  pub whole : HasNoLineFeed line
  pub no_open : (next_id last_at count : ℕ) → IsWord last_at → IsOpenLine (words_of line) next_id last_at count
      → MayOpen version next_id last_at count → ⊥

-- the text has a whole line next, which is the line of no element that may follow these
pub record HasOtherKeep (version : Version) (next_id : ℕ) (kept : List Element) (text : List ℕ) : Type 0 where
  pub line : List ℕ
  pub behind : List ℕ
  pub split : text ≡ line ++ (LINE_FEED ∷ behind)
  pub whole : HasNoLineFeed line
  pub no_keep : (element : Element) → IsRightElement element → words_of line ≡ keep_words version element
      → AreInOrder (kept ++ element ∷ []) next_id → ⊥

-- The line with the numbers of an opening has this fault.
abbrev pub OpenFault : Version → List ℕ → ℕ → TextReason → Type 0
OpenFault version text line reason =
    (line ≡ 2) × (((reason ≡ End) × HasNoLineFeed text) ⊎ ((reason ≡ reasons.Opening) × HasOtherOpen version text))

-- After the numbers of an opening and some of its elements, the next element's line has this fault.
pub record KeepFault (version : Version) (text : List ℕ) (line : ℕ) (reason : TextReason) : Type 0 where
  pub next_id : ℕ
  pub last_at : ℕ
  pub count : ℕ
  pub kept : List Element
  pub rest : List ℕ
  pub split : text ≡ lines_text (numbers_words next_id last_at count ∷ map (keep_words version) kept) ++ rest
  pub next : next_id ≤ GREATEST_OPENING_ID
  pub last : IsWord last_at
  pub most : count ≤ MOST_OPENING_ELEMENTS
  pub opens : MayOpen version next_id last_at count
  pub right : AreRightElements kept
  pub order : AreInOrder kept next_id
  pub fewer : length kept < count
  pub place : line ≡ 3 + length kept
  pub fault : ((reason ≡ End) × HasNoLineFeed rest)
      ⊎ ((reason ≡ reasons.Opening) × HasOtherKeep version next_id kept rest)

-- After a whole opening, the lines of events have this fault.
pub record FaultBehind (version : Version) (text : List ℕ) (line : ℕ) (reason : TextReason) : Type 0 where
  pub opening : Opening
  pub rest : List ℕ
  pub split : text ≡ lines_text (opening_lines version opening) ++ rest
  pub right : IsRightOpening opening
  pub opens : MayOpen version opening.next_id opening.last_at (length opening.elements)
  pub fault : EventsFault version rest (3 + length opening.elements) line reason

-- the lines after the header have this first fault
abbrev pub BodyFault : Version → List ℕ → ℕ → TextReason → Type 0
BodyFault One text line reason = EventsFault One text 2 line reason
BodyFault version text line reason =
    OpenFault version text line reason ⊎ (KeepFault version text line reason ⊎ FaultBehind version text line reason)

-- the text begins with a header, and what follows it has this first fault
pub record FaultInBody (text : List ℕ) (line : ℕ) (reason : TextReason) : Type 0 where
  pub version : Version
  pub behind : List ℕ
  pub split : text ≡ line_text (header_words version) ++ behind
  pub fault : BodyFault version behind line reason

-- the line of this number, from 1, has the text's first fault
abbrev pub HasFault : List ℕ → ℕ → TextReason → Type 0
HasFault text line reason =
    ((line ≡ 1) × (reason ≡ Header) × HasNoHeader text) ⊎ FaultInBody text line reason
