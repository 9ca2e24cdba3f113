-- The text of a history.
use Rattle.std.specs.Prelude.{ℕ, List, [], ◌∷◌, ◌++◌, length, map}
use Rattle.rb_protocol.specs.Line.{spaced}
use Rattle.rb_protocol.specs.declared.format.TheConstants.{LINE_FEED}
use Rattle.rb_queue.specs.declared.event.Event.{Event}
use Rattle.rb_queue.specs.declared.opening.Opening.{Opening}
use Rattle.rb_history.specs.declared.version.Version.{Version}
use Rattle.rb_history.specs.declared.version.Version.TheVariants.{One, Two, Three}
use Rattle.rb_history.specs.EventText.{event_words, header_words, open_words, keep_words, end_words}

-- the words, separated by single spaces, and a line feed
abbrev pub line_text : List (List ℕ) → List ℕ
line_text words = spaced words ++ (LINE_FEED ∷ [])

-- lines, each given by its words
abbrev pub lines_text : List (List (List ℕ)) → List ℕ
lines_text [] = []
lines_text (words ∷ lines) = line_text words ++ lines_text lines

-- the lines of the opening: none in the first version, whose opening is empty
abbrev pub opening_lines : Version → Opening → List (List (List ℕ))
opening_lines One opening = []
opening_lines Two opening = open_words opening ∷ map (keep_words Two) opening.elements
opening_lines Three opening = open_words opening ∷ map (keep_words Three) opening.elements

-- the lines of a history: the version, the opening, a line for each event, and the number of events
abbrev pub history_lines : Version → Opening → List Event → List (List (List ℕ))
history_lines version opening events =
    (header_words version ∷ opening_lines version opening)
    ++ (map (event_words version) events ++ (end_words (length events) ∷ []))

-- the text of a history in a version
abbrev pub text_in : Version → Opening → List Event → List ℕ
text_in version opening events = lines_text (history_lines version opening events)

-- the text that is written
abbrev pub history_text : Opening → List Event → List ℕ
history_text opening events = text_in Three opening events
