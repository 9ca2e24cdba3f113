-- The text of each reply line.
use Rattle.std.specs.Prelude.{ℕ, List, [], ◌∷◌, ◌++◌, codes, decimal, if◌then◌else◌}
use Rattle.rb_delayed.specs.declared.element.Element.{Element}
use Rattle.rb_protocol.specs.Line.{spaced}
use Rattle.rb_protocol.specs.declared.format.TheConstants.{LINE_FEED}
use Rattle.rb_protocol.specs.declared.err_word.ErrWord.{ErrWord}
use Rattle.rb_protocol.specs.declared.err_word.ErrWord.TheVariants.{Syntax, Number, Range, Payload}
use Rattle.rb_protocol.specs.declared.err_word.ErrWord.TheVariants.{NotHeld, Full, Memory, Line, Held}
use Rattle.rb_protocol.specs.declared.line_reply.LineReply.{LineReply}
use Rattle.rb_protocol.specs.declared.line_reply.LineReply.TheVariants.{Offered, Item, Head, Nothing, Removed}
use Rattle.rb_protocol.specs.declared.line_reply.LineReply.TheVariants.{Drained, Cleared, Size, Done, Again, Dead}
use Rattle.rb_protocol.specs.declared.line_reply.LineReply.TheVariants.{Now, Stopped, Bye, Err}

-- what is shown of an element
abbrev pub element_words : Element → List (List ℕ)
element_words e = decimal e.id ∷ decimal e.expiry ∷ decimal e.attempt ∷ e.payload ∷ []

-- the number of an error, and its word
abbrev pub error_words : ErrWord → List (List ℕ)
error_words Syntax = codes "1" ∷ codes "syntax" ∷ []
error_words Number = codes "2" ∷ codes "number" ∷ []
error_words Range = codes "3" ∷ codes "range" ∷ []
error_words Payload = codes "4" ∷ codes "payload" ∷ []
error_words NotHeld = codes "5" ∷ codes "not-held" ∷ []
error_words Full = codes "6" ∷ codes "full" ∷ []
error_words Memory = codes "7" ∷ codes "memory" ∷ []
error_words Line = codes "8" ∷ codes "line" ∷ []
error_words Held = codes "9" ∷ codes "held" ∷ []

-- the words of each reply
abbrev pub reply_words : LineReply → List (List ℕ)
reply_words (Offered id expiry) = codes "OFFERED" ∷ decimal id ∷ decimal expiry ∷ []
reply_words (Item element) = codes "ITEM" ∷ element_words element
reply_words (Head element) = codes "HEAD" ∷ element_words element
reply_words Nothing = codes "NONE" ∷ []
reply_words (Removed found) = codes "REMOVED" ∷ (if found then codes "yes" else codes "no") ∷ []
reply_words (Drained count) = codes "DRAINED" ∷ decimal count ∷ []
reply_words Cleared = codes "CLEARED" ∷ []
reply_words (Size count) = codes "SIZE" ∷ decimal count ∷ []
reply_words (Done id) = codes "DONE" ∷ decimal id ∷ []
reply_words (Again id expiry) = codes "AGAIN" ∷ decimal id ∷ decimal expiry ∷ []
reply_words (Dead id) = codes "DEAD" ∷ decimal id ∷ []
reply_words (Now moment) = codes "NOW" ∷ decimal moment ∷ []
reply_words Stopped = codes "STOPPED" ∷ []
reply_words Bye = codes "BYE" ∷ []
reply_words (Err word) = codes "ERR" ∷ error_words word

-- the line, with its line feed
abbrev pub text_of : LineReply → List ℕ
text_of reply = spaced (reply_words reply) ++ (LINE_FEED ∷ [])
