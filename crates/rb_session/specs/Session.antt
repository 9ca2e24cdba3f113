-- What a session answers to the bytes that it reads.
use Rattle.std.specs.Prelude.{◌≡◌, ◌≢◌, ◌⊎◌, ℕ, ◌<◌, List, [], ◌∷◌, ◌++◌, length, Result, Ok}
use Rattle.rb_retry.specs.DeskRules.{DeskRules}
use Rattle.rb_protocol.specs.Reading.{IsReading}
use Rattle.rb_protocol.specs.ReplyText.{text_of}
use Rattle.rb_protocol.specs.declared.format.TheConstants.{LINE_FEED}
use Rattle.rb_protocol.specs.declared.request.Request.{Request}
use Rattle.rb_protocol.specs.declared.request.Request.TheVariants.{Quit}
use Rattle.rb_protocol.specs.declared.line_fault.LineFault.{LineFault}
use Rattle.rb_protocol.specs.declared.line_reply.LineReply.{LineReply}
use Rattle.rb_protocol.specs.declared.line_reply.LineReply.TheVariants as lines
use Rattle.rb_protocol.specs.declared.err_word.ErrWord.TheVariants as words
use Rattle.rb_protocol.specs.Line.{HasNoLineFeed}
use Rattle.rb_session.specs.Lines.{line_of}
use Rattle.rb_protocol.specs.declared.limits.TheConstants.{BUFFER_BYTES}
use Rattle.rb_session.specs.Rules.{SessionRules}
use Rattle.rb_session.specs.Turn.{Point, IsTurn, NeedsNoWait}

-- A line that was served: its bytes before the line feed, what they were read as, and its replies.
pub record Turn : Type 0 where
  pub raw : List ℕ
  pub reading : Result Request LineFault
  pub replies : List LineReply

-- the text of these replies
abbrev pub texts_of : List LineReply → List ℕ
texts_of [] = []
texts_of (reply ∷ replies) = text_of reply ++ texts_of replies

-- the bytes of these lines, with their ends
abbrev pub bytes_of : List Turn → List ℕ
bytes_of [] = []
bytes_of (turn ∷ turns) = turn.raw ++ LINE_FEED ∷ bytes_of turns

-- the text that answers these lines
abbrev pub answers_of : List Turn → List ℕ
answers_of [] = []
answers_of (turn ∷ turns) = texts_of turn.replies ++ answers_of turns

-- the bytes before a line feed are a line that is read so
abbrev pub IsLine : List ℕ → Result Request LineFault → Type 0
IsLine raw reading = HasNoLineFeed raw × IsReading (line_of raw) reading

-- what the bytes behind the last line feed get: one line, where there are any
abbrev pub rest_text : List ℕ → List ℕ
rest_text [] = []
rest_text (byte ∷ rest) = text_of (lines.Err words.Line)

module _ {S : Type 0} (rules : DeskRules S) where
  -- These lines are served one after the other. None of them ends the session.
  abbrev pub Serves : Point S → List Turn → Point S → Type 0
  Serves old [] new = new ≡ old
  Serves old (turn ∷ turns) new =
      (between : Point S) × IsLine turn.raw turn.reading × (turn.reading ≢ Ok Quit)
      × IsTurn rules old turn.reading turn.replies between × Serves between turns new

module _ {S : Type 0} (rules : SessionRules S) where
  -- before the line had to wait, if it had to, the writer had got this text
  abbrev pub GotBeforeWait : List ℕ → Point S → Result Request LineFault → List LineReply → Point S → Type 0
  GotBeforeWait earlier old reading replies new =
      NeedsNoWait rules.desk old reading replies new ⊎ rules.HadGot earlier

  -- Before each of these lines that had to wait, the writer had got what answers the lines before it: this text, and then
  -- their replies.
  abbrev pub GotBeforeWaits : List ℕ → (old : Point S) → (turns : List Turn) → (new : Point S)
      → Serves rules.desk old turns new → Type 0
  GotBeforeWaits earlier old [] new same = Unit {0}
  GotBeforeWaits earlier old (turn ∷ turns) new (between, is_line, goes_on, is_turn, rest) =
      GotBeforeWait earlier old turn.reading turn.replies between
      × GotBeforeWaits (earlier ++ texts_of turn.replies) between turns new rest

  -- The first lines of what came are served, and this is the text that answers them. What came behind them is not
  -- served.
  pub record ServesFirst (from : Point S) (came text : List ℕ) (to : Point S) : Type 0 where
    pub turns : List Turn
    pub unserved : List ℕ
    pub split : came ≡ bytes_of turns ++ unserved
    pub serves : Serves rules.desk from turns to
    pub waits : GotBeforeWaits [] from turns to serves
    pub answers : text ≡ answers_of turns

  -- What came is served to its end, and the input is over. What stands behind its last line feed is a
  -- truncated line.
  pub record ServesToEnd (Over : Type 0) (from : Point S) (came sent : List ℕ) (to : Point S) : Type 0 where
    pub over : Over
    pub text : List ℕ
    pub first : ServesFirst from came text to
    pub no_line : HasNoLineFeed first.unserved
    pub answers : sent ≡ text ++ rest_text first.unserved

  -- What came is served to a line that ends the session. What came behind that one is not served, and is less
  -- than one read gets: nothing is read once that line has come.
  pub record ServesToQuit (from : Point S) (came sent : List ℕ) (to : Point S) : Type 0 where
    pub text : List ℕ
    pub first : ServesFirst from came text to
    pub raw : List ℕ
    pub unserved : List ℕ
    pub split : first.unserved ≡ raw ++ LINE_FEED ∷ unserved
    pub few : length unserved < BUFFER_BYTES
    pub quit : IsLine raw (Ok Quit)
    pub answers : sent ≡ text ++ text_of lines.Bye
