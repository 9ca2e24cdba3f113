-- What a run of a session comes to: what came, what was sent, and the desk's way between them.
use Rattle.std.specs.Prelude.{◌≡◌, ℕ, ◌<◌, ◌≤◌, ◌⊎◌, List, [], ◌∷◌, ◌++◌, length, Result, Ok, Err}
use Rattle.std.specs.Prelude.{Option}
use Rattle.std.specs.Io.KnownBytes.{Appends, Consumes, IsAtEnd}
use Rattle.rb_protocol.specs.Line.{HasNoLineFeed}
use Rattle.rb_protocol.specs.declared.format.TheConstants.{LINE_FEED}
use Rattle.rb_protocol.specs.declared.request.Request.{Request}
use Rattle.rb_protocol.specs.declared.line_fault.LineFault.{LineFault}
use Rattle.rb_protocol.specs.declared.line_fault.LineFault.TheVariants.{Line}
use Rattle.rb_protocol.specs.declared.line_reply.LineReply.{LineReply}
use Rattle.rb_session.specs.Rules.{SessionRules, IsGathered, most_held_back}
use Rattle.rb_session.specs.Served.{Served}
use Rattle.rb_session.specs.Turn.{Point, point, IsTurn}
use Rattle.rb_session.specs.Session.{IsLine, GotBeforeWait, ServesFirst, ServesToEnd, ServesToQuit, texts_of}
use Rattle.rb_session.specs.Closing.{Closes}
use Rattle.rb_session.specs.declared.ended.Ended.{Ended}
use Rattle.rb_session.specs.declared.ended.Ended.TheVariants.{Quit, EndOfInput}
use Rattle.rb_session.specs.declared.session_fault.SessionFault.{SessionFault}
use Rattle.rb_session.specs.declared.session_fault.SessionFault.TheVariants.{Memory, Read, Write, ReadTurns}

-- the bytes begin with a line that is read so, or the input is over and they are a truncated line
abbrev pub BeginsWith : Type 0 → List ℕ → Result Request LineFault → Type 0
BeginsWith Over bytes reading =
    ((raw : List ℕ) × (rest : List ℕ) × (bytes ≡ raw ++ LINE_FEED ∷ rest) × IsLine raw reading)
    ⊎ (Over × (0 < length bytes) × HasNoLineFeed bytes × (reading ≡ Err Line))

module _ {S : Type 0} (rules : SessionRules S) where
  -- The input broke off. The whole lines of what came were served and answered; the bytes behind them
  -- were not.
  abbrev pub BreaksOff : Point S → List ℕ → List ℕ → Point S → Type 0
  BreaksOff from came sent to = (first : ServesFirst rules from came sent to) × HasNoLineFeed first.unserved

  -- A reply could not be sent whole. The lines before were answered whole; this line was the last that was served, and
  -- a first part of its own text was sent.
  pub record FailsToWrite (Over : Type 0) (from : Point S) (came sent : List ℕ) (to : Point S) : Type 0 where
    pub text : List ℕ
    pub before_last : Point S
    pub first : ServesFirst rules from came text before_last
    pub reading : Result Request LineFault
    pub begins : BeginsWith Over first.unserved reading
    pub replies : List LineReply
    pub turn : IsTurn rules.desk before_last reading replies to
    pub waits : GotBeforeWait rules text before_last reading replies to
    pub part : List ℕ
    pub unsent : List ℕ
    pub parts : texts_of replies ≡ part ++ unsent
    pub answers : sent ≡ text ++ part

  -- The first lines are served, and the desk was tried for one behind them, which would have had to wait.
  abbrev pub MissesNext : Point S → List ℕ → List ℕ → Point S → Type 0
  MissesNext from came text to =
      (last : Point S) × ServesFirst rules from came text last × rules.desk.Misses last.desk to.desk × (to.held ≡ last.held)

  -- What a session may have served when a write fails: all that it had to, or the first lines, and perhaps it was about
  -- to wait.
  abbrev pub ServesSome : Type 0 → Point S → List ℕ → List ℕ → Point S → Type 0
  ServesSome Over from came text to =
      ServesToQuit rules from came text to
      ⊎ (ServesToEnd rules Over from came text to
      ⊎ (ServesFirst rules from came text to ⊎ MissesNext from came text to))

  -- What a session may send while it runs begins the answers to the lines that it has served by then.
  abbrev pub BeginsAnswers : Type 0 → Point S → List ℕ → List ℕ → Point S → Type 0
  BeginsAnswers Over from came sent to = (unsent : List ℕ) × ServesSome Over from came (sent ++ unsent) to

  -- What a recipient demands of a piece holds if all that it has got since it was this one, and the piece, begin the
  -- answers to lines that came from the reader by then, and it is shown the desk where those lines led it.
  abbrev pub DemandsOnlyAnswers : {I O V : Type 0} → Point S → (S → V → Type 0) → (I → Option (List ℕ)) → I
      → (O → Option (List ℕ)) → (O → V → List ℕ → Type 0) → O → Type 0
  DemandsOnlyAnswers {I = I} {O = O} {V = V} from shows remaining reader contents demands writer =
      (reader' : I) (writer' : O) (came sent piece : List ℕ) (to : Point S) (shown : V)
      → Consumes (remaining reader) (remaining reader') came → Appends (contents writer) (contents writer') sent
      → BeginsAnswers (IsAtEnd (remaining reader')) from came (sent ++ piece) to → shows to.desk shown
      → demands writer' shown piece

  -- A write failed: a reply could not be sent, or all that was served was answered, and what was held back of gathered
  -- replies could not be handed on.
  abbrev pub FailsToSend : Type 0 → Point S → List ℕ → List ℕ → Point S → Type 0
  FailsToSend Over from came sent to =
      FailsToWrite Over from came sent to ⊎ (IsGathered rules.delivery × ServesSome Over from came sent to)

  -- A write failed, perhaps later than the first reply that it lost. The replies passed on are those of the lines that
  -- were served, up to where passing them on failed. The writer was sent a first part of these; the rest was held back,
  -- and no more than that was lost.
  pub record LosesReplies (Over : Type 0) (from : Point S) (came sent : List ℕ) (to : Point S) : Type 0 where
    pub passed : List ℕ
    pub fails : FailsToSend Over from came passed to
    pub held_back : List ℕ
    pub few : length held_back ≤ most_held_back rules.delivery
    pub parts : passed ≡ sent ++ held_back

  -- where serving the lines stopped, what is still held fails
  abbrev pub ThenCloses : (Point S → Type 0) → ℕ → S → Type 0
  ThenCloses stopped lost to =
      (last : Point S) × stopped last × Closes rules.desk last.desk last.held lost to

  -- what came, what was sent, and what became of the desk, if the session ended so
  abbrev pub RanUntil : Type 0 → S → Served → Result Ended SessionFault → S → Type 0
  RanUntil Over from served (Ok (Quit lost)) to =
      ThenCloses (λ last. ServesToQuit rules (point from []) served.came served.sent last) lost to
  RanUntil Over from served (Ok (EndOfInput lost)) to =
      ThenCloses (λ last. ServesToEnd rules Over (point from []) served.came served.sent last) lost to
  RanUntil Over from served (Err (Read lost)) to =
      ThenCloses (λ last. BreaksOff (point from []) served.came served.sent last) lost to
  RanUntil Over from served (Err (ReadTurns lost)) to =
      ThenCloses (λ last. BreaksOff (point from []) served.came served.sent last) lost to
  RanUntil Over from served (Err (Write lost)) to =
      ThenCloses (λ last. LosesReplies Over (point from []) served.came served.sent last) lost to
  RanUntil Over from served (Err Memory) to = (to ≡ from) × (served.came ≡ []) × (served.sent ≡ [])

  -- A session took the desk from one state to another, and this is what came, what was sent and how it ended. Nothing
  -- is held at the start. But for a write that failed, a session whose replies are gathered ends as if each had been
  -- written at once.
  abbrev pub Ran : Type 0 → S → Served → S → Type 0
  Ran Over from served to = RanUntil Over from served served.ended to
