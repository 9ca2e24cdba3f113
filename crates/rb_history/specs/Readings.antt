-- What a text of a history is read as.
use Rattle.std.specs.Prelude.{◌≡◌, ℕ, ◌≤◌, List, [], length, Result, Ok, Err}
use Rattle.rb_queue.specs.declared.event.Event.{Event}
use Rattle.rb_queue.specs.declared.opening.Opening.{Opening}
use Rattle.rb_history.specs.HistoryText.{text_in}
use Rattle.rb_history.specs.Firsts.{FirstsFollow}
use Rattle.rb_history.specs.Ranges.{IsRightOpening, AreRightEvents}
use Rattle.rb_history.specs.OpeningReading.{MayOpen}
use Rattle.rb_history.specs.TextFaults.{HasFault}
use Rattle.rb_history.specs.declared.history.History.{History}
use Rattle.rb_history.specs.declared.text_fault.TextFault.{TextFault}
use Rattle.rb_history.specs.declared.text_fault.TextFault.TheVariants.{At, Memory}
use Rattle.rb_history.specs.declared.text_fault.TextReason.{TextReason}
use Rattle.rb_history.specs.declared.version.Version.{Version}
use Rattle.rb_history.specs.declared.version.Version.TheVariants.{One, Two, Three}
use Rattle.rb_history.specs.declared.write.TheConstants.{MOST_EVENTS}

-- which openings a version has texts of: the first version none but the empty one, and the second all others
abbrev pub MayBegin : Version → Opening → Type 0
MayBegin One opening = (opening.elements ≡ []) × (opening.next_id ≡ 0) × (opening.last_at ≡ 0)
MayBegin Two opening = MayOpen Two opening.next_id opening.last_at (length opening.elements)
MayBegin Three opening = Unit {0}

-- The text is that of this history in this version.
pub record IsTextIn (version : Version) (opening : Opening) (events : List Event) (text : List ℕ) : Type 0 where
  pub text_is : text ≡ text_in version opening events
  pub begins : MayBegin version opening
  pub few : length events ≤ MOST_EVENTS
  pub firsts : FirstsFollow version opening.elements events

-- the text is that of this history in one of the versions
abbrev pub IsTextOf : Opening → List Event → List ℕ → Type 0
IsTextOf opening events text = (version : Version) × IsTextIn version opening events text

-- the history whose text this is, or the first fault of the text
abbrev pub Reads : List ℕ → Result History TextFault → Type 0
Reads text (Ok history) = IsTextOf history.opening history.events text
Reads text (Err (At line reason)) = HasFault text line reason
Reads text (Err Memory) = Unit {0}

-- this history was read, unless memory was refused
abbrev pub IsReadAs : Opening → List Event → Result History TextFault → Type 0
IsReadAs opening events (Ok history) = (history.opening ≡ opening) × (history.events ≡ events)
IsReadAs opening events (Err (At line reason)) = ⊥
IsReadAs opening events (Err Memory) = Unit {0}

-- A text of a history is read as that history, unless memory is refused.
abbrev pub ReadsEach : List ℕ → Result History TextFault → Type 0
ReadsEach text result = (opening : Opening) (events : List Event) → IsRightOpening opening → AreRightEvents events
    → IsTextOf opening events text → IsReadAs opening events result

-- the law that no text is that of two histories, nor that of one history in two versions
abbrev pub NoTextOfTwo : Type 0
NoTextOfTwo = (version other : Version) (opening second : Opening) (events others : List Event) (text : List ℕ)
    → IsRightOpening opening → AreRightEvents events → IsRightOpening second → AreRightEvents others
    → IsTextIn version opening events text → IsTextIn other second others text
    → (version ≡ other) × (opening ≡ second) × (events ≡ others)

-- the law that a history has one text in each version
abbrev pub OneTextEach : Type 0
OneTextEach = (version : Version) (opening : Opening) (events : List Event) (text other : List ℕ)
    → IsTextIn version opening events text → IsTextIn version opening events other → text ≡ other

-- the law that a text of a history has no fault
abbrev pub NoFaultOfText : Type 0
NoFaultOfText = (opening : Opening) (events : List Event) (text : List ℕ) (line : ℕ) (reason : TextReason)
    → IsRightOpening opening → AreRightEvents events → IsTextOf opening events text → HasFault text line reason → ⊥

-- the law that a text has at most one fault, its first
abbrev pub OneFault : Type 0
OneFault = (text : List ℕ) (line other : ℕ) (reason cause : TextReason)
    → HasFault text line reason → HasFault text other cause → (line ≡ other) × (reason ≡ cause)
