-- Lines that are served one after the other, and the line at which that ends.
use Rattle.std.proofs.Common.{◌≡◌, ◌≢◌, ℕ, ◌<◌, length, List, [], ◌∷◌, ◌++◌, Result, Ok, Err, inl, inr, arith}
use Rattle.std.proofs.Common.{refl, sym, ap, subst, ◌∙◌, append_assoc}
use Rattle.std.proofs.lemmas.List.{append-nil}
use Rattle.rb_protocol.specs.Line.{HasNoLineFeed}
use Rattle.rb_protocol.specs.ReplyText.{text_of}
use Rattle.rb_protocol.specs.declared.format.TheConstants.{LINE_FEED}
use Rattle.rb_protocol.specs.declared.limits.TheConstants.{BUFFER_BYTES}
use Rattle.rb_protocol.specs.declared.request.Request.{Request}
use Rattle.rb_protocol.specs.declared.request.Request.TheVariants.{Quit}
use Rattle.rb_protocol.specs.declared.line_fault.LineFault.{LineFault}
use Rattle.rb_protocol.specs.declared.line_fault.LineFault.TheVariants.{Line}
use Rattle.rb_protocol.specs.declared.line_reply.LineReply.{LineReply}
use Rattle.rb_protocol.specs.declared.line_reply.LineReply.TheVariants as lines
use Rattle.rb_protocol.specs.declared.err_word.ErrWord.TheVariants as words
use Rattle.rb_session.specs.Buffer.{IsUnserved}
use Rattle.rb_session.specs.Rules.{SessionRules}
use Rattle.rb_session.specs.Turn.{Point, IsTurn}
use Rattle.rb_session.specs.Session.{Turn, IsLine, Serves, GotBeforeWait, GotBeforeWaits, ServesFirst, ServesToQuit}
use Rattle.rb_session.specs.Session.{bytes_of, answers_of, texts_of, rest_text}
use Rattle.rb_session.specs.Ran.{FailsToWrite}
use Rattle.rb_session.specs.declared.line_buffer.LineBuffer.{LineBuffer}

-- the bytes of lines, one behind the other
pub bytes_of-append : (one two : List Turn) → bytes_of (one ++ two) ≡ bytes_of one ++ bytes_of two
bytes_of-append [] two = refl
bytes_of-append (turn ∷ one) two =
    ap (λ b. turn.raw ++ LINE_FEED ∷ b) (bytes_of-append one two)
    ∙ sym (append_assoc turn.raw (LINE_FEED ∷ bytes_of one) (bytes_of two))

-- and the text that answers them
pub answers_of-append : (one two : List Turn) → answers_of (one ++ two) ≡ answers_of one ++ answers_of two
answers_of-append [] two = refl
answers_of-append (turn ∷ one) two =
    ap (λ t. texts_of turn.replies ++ t) (answers_of-append one two)
    ∙ sym (append_assoc (texts_of turn.replies) (answers_of one) (answers_of two))

-- the bytes of a line behind others, and what follows
pub bytes_more : (turns : List Turn) (turn : Turn) (rest : List ℕ)
    → bytes_of turns ++ (turn.raw ++ LINE_FEED ∷ rest) ≡ bytes_of (turns ++ turn ∷ []) ++ rest
bytes_more turns turn rest =
    ap (λ b. bytes_of turns ++ b) (sym (append_assoc turn.raw (LINE_FEED ∷ []) rest))
    ∙ sym (append_assoc (bytes_of turns) (turn.raw ++ LINE_FEED ∷ []) rest)
    ∙ ap (λ b. b ++ rest) (sym (bytes_of-append turns (turn ∷ [])))

-- the text of a line behind others
pub answers_more : (turns : List Turn) (turn : Turn)
    → answers_of turns ++ texts_of turn.replies ≡ answers_of (turns ++ turn ∷ [])
answers_more turns turn =
    sym (answers_of-append turns (turn ∷ []) ∙ ap (λ t. answers_of turns ++ t) (append-nil (texts_of turn.replies)))

-- lines behind others, with what had been got before their waits
module _ {S : Type 0} (rules : SessionRules S) where
  abbrev ServedBehind : List ℕ → Point S → List Turn → Point S → Type 0
  ServedBehind earlier old turns new =
      (serves : Serves rules.desk old turns new) × GotBeforeWaits rules earlier old turns new serves

  pub serves_on : (earlier : List ℕ) (old mid new : Point S) (one two : List Turn) → ServedBehind earlier old one mid
      → ServedBehind (earlier ++ answers_of one) mid two new → ServedBehind earlier old (one ++ two) new
  serves_on earlier old mid new [] two (same, got) more =
      subst (λ text. ServedBehind text old two new) (append-nil earlier)
      (subst (λ p. ServedBehind (earlier ++ []) p two new) same more)
  serves_on earlier old mid new (turn ∷ one) two ((between, line, goes, is_turn, rest), (here, got)) more =
      let text = texts_of turn.replies in
      let (serves, waits) = serves_on (earlier ++ text) between mid new one two (rest, got)
      (subst (λ all. ServedBehind all mid two new) (sym (append_assoc earlier text (answers_of one))) more) in
      ((between, line, goes, is_turn, serves), (here, waits))

-- bytes behind the last line feed get one line
pub rest_is : (rest : List ℕ) → 0 < length rest → texts_of (lines.Err words.Line ∷ []) ≡ rest_text rest
rest_is [] some = absurd (omega arith)
rest_is (byte ∷ rest) some = append-nil (text_of (lines.Err words.Line))

module _ {S : Type 0} (rules : SessionRules S) where
  -- nothing was served yet
  unfoldable pub serves_none : (from : Point S) (bytes : List ℕ) → ServesFirst rules from bytes [] from
  serves_none from bytes = record {
    turns = [];
    unserved = bytes;
    split = refl;
    serves = refl;
    waits = tt;
    answers = refl;
  }

  module _ {from here : Point S} {came sent : List ℕ} (first : ServesFirst rules from came sent here) where
    -- more came behind what is not served yet
    pub reads_more : (more text : List ℕ) → text ≡ [] → (buffer : LineBuffer) → IsUnserved buffer (first.unserved ++ more)
        → (later : ServesFirst rules from (came ++ more) (sent ++ text) here) × IsUnserved buffer later.unserved
    reads_more more text nothing buffer unserved = (
      record {
        turns = first.turns;
        unserved = first.unserved ++ more;
        split = ap (λ b. b ++ more) first.split ∙ append_assoc (bytes_of first.turns) first.unserved more;
        serves = first.serves;
        waits = first.waits;
        answers = ap (λ t. sent ++ t) nothing ∙ append-nil sent ∙ first.answers;
      },
      unserved,
    )

    -- the bytes behind the last line feed could not be answered
    pub fails_at_end : (Over : Type 0) → Over → HasNoLineFeed first.unserved → 0 < length first.unserved
        → (part unsent : List ℕ) → rest_text first.unserved ≡ part ++ unsent
        → FailsToWrite rules Over from came (sent ++ part) here
    fails_at_end Over over no_feed some part unsent parts = record {
      text = sent;
      before_last = here;
      first = first;
      reading = Err Line;
      begins = inr (over, some, no_feed, refl);
      replies = lines.Err words.Line ∷ [];
      turn = (refl, refl);
      waits = inl tt;
      part = part;
      unsent = unsent;
      parts = rest_is first.unserved some ∙ parts;
      answers = refl;
    }

    -- the next line is answered
    module _ (after : Point S) (raw rest : List ℕ) (reading : Result Request LineFault) (replies : List LineReply)
        (split : first.unserved ≡ raw ++ LINE_FEED ∷ rest) (line : IsLine raw reading)
        (turn : IsTurn rules.desk here reading replies after)
        (waits : GotBeforeWait rules sent here reading replies after) where
      -- its whole reply was sent, and the session goes on
      pub goes_on : reading ≢ Ok Quit → (buffer : LineBuffer) → IsUnserved buffer rest
          → (later : ServesFirst rules from came (sent ++ texts_of replies) after) × IsUnserved buffer later.unserved
      goes_on other buffer unserved =
          let one : Turn = record { raw = raw; reading = reading; replies = replies } in
          let got = subst (λ text. GotBeforeWait rules text here reading replies after) first.answers waits in
          let (serves, waits) = serves_on rules [] from here after first.turns (one ∷ [])
          (first.serves, first.waits) ((after, line, other, turn, refl), (got, tt)) in (
            record {
              turns = first.turns ++ one ∷ [];
              unserved = rest;
              split = first.split ∙ ap (λ b. bytes_of first.turns ++ b) split ∙ bytes_more first.turns one rest;
              serves = serves;
              waits = waits;
              answers = ap (λ t. t ++ texts_of replies) first.answers ∙ answers_more first.turns one;
            },
            unserved,
          )

      -- it ends the session
      pub quits : length rest < BUFFER_BYTES → reading ≡ Ok Quit
          → ServesToQuit rules from came (sent ++ texts_of replies) after
      quits few quit =
          let bye = subst (λ r. IsTurn rules.desk here r replies after) quit turn in
          subst (λ p. ServesToQuit rules from came (sent ++ texts_of replies) p) (sym bye.2.1) (record {
            text = sent;
            first = first;
            raw = raw;
            unserved = rest;
            split = split;
            few = few;
            quit = subst (IsLine raw) quit line;
            answers = ap (λ t. sent ++ t) (ap texts_of bye.2.0 ∙ append-nil (text_of lines.Bye));
          })

      -- its reply could not be sent whole
      pub fails : (Over : Type 0) (part unsent : List ℕ) → texts_of replies ≡ part ++ unsent
          → FailsToWrite rules Over from came (sent ++ part) after
      fails Over part unsent parts = record {
        text = sent;
        before_last = here;
        first = first;
        reading = reading;
        begins = inl (raw, rest, split, line);
        replies = replies;
        turn = turn;
        waits = waits;
        part = part;
        unsent = unsent;
        parts = parts;
        answers = refl;
      }
