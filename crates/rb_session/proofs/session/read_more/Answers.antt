-- A read brings more behind what is not served; at the end of the input the last bytes are answered.
use Rattle.std.proofs.Common.{◌≡◌, ◌↔◌, Bool, IsTrue, true, false, ℕ, ◌<◌, List, [], ◌∷◌, ◌++◌, Result, inl, inr, refl, sym, ap, subst, ◌∙◌, arith, length}
use Rattle.std.proofs.lemmas.Bool.Decides.{nat_tests}
use Rattle.std.proofs.lemmas.List.{append-nil}
use Rattle.std.proofs.KnownBytes.{Appends-nil, Appends-kept, Appends-trans, Consumes-nil, Consumes-kept}
use Rattle.std.specs.Io.KnownBytes.{Consumes, IsAtEnd}
use Rattle.std.specs.declared.io.Error.{Error}
use Rattle.rb_protocol.specs.Line.{HasNoLineFeed}
use Rattle.rb_protocol.specs.ReplyText.{text_of}
use Rattle.rb_protocol.specs.declared.line_reply.LineReply.TheVariants as lines
use Rattle.rb_protocol.specs.declared.err_word.ErrWord.TheVariants as words
use Rattle.rb_session.specs.Buffer.{IsUnserved, TakesMore}
use Rattle.rb_session.specs.Session.{rest_text}
use Rattle.rb_session.proofs.Gatherings.{goes_on}
use Rattle.rb_session.proofs.Outlets.{gathers, reads_failed}
use Rattle.rb_session.specs.Outlet.{MaySend, Passes}
use Rattle.rb_session.proofs.Passed.{where_failed, passes_then, may_send_then}
use Rattle.rb_session.proofs.session.read_more.Given.{Over}
use Rattle.rb_session.proofs.session.read_more.Goals as goal
use Rattle.rb_session.proofs.session.read_more.Goals.{After-read_from, In-Ok-eq0}

-- bytes behind the last line feed get one line
line_for : (bytes : List ℕ) → 0 < length bytes → text_of (lines.Err words.Line) ≡ rest_text bytes
line_for [] some = absurd (omega arith)
line_for (byte ∷ bytes) some = refl

no_bytes : (more : List ℕ) → length more ≡ 0 → more ≡ []
no_bytes [] none = refl
no_bytes (byte ∷ more) none = absurd (omega arith)

-- what the read did, by its result
read_took : (g : Over) (c : After-read_from g) (bytes : List ℕ) → IsUnserved c.args.buffer.now bytes
    → HasNoLineFeed bytes → (result : Result ℕ Error) → c.read_from.result ≡ result
    → TakesMore bytes (g.R.Read.remaining c.args.reader.now.inner.now) result c.read_from.new.self
    (g.R.Read.remaining c.read_from.new.reader.inner.now)
read_took g c bytes unserved none result is =
    subst (λ (r : Result ℕ Error). TakesMore bytes (g.R.Read.remaining c.args.reader.now.inner.now) r
    c.read_from.new.self (g.R.Read.remaining c.read_from.new.reader.inner.now)) is
    (c.read_from.ensures.taken bytes unserved none)

-- the input is over
over : (g : Over) (c : In-Ok-eq0 g) (bytes : List ℕ) → IsUnserved c.args.buffer.now bytes → HasNoLineFeed bytes
    → Consumes (g.R.Read.remaining c.args.reader.now.inner.now) (g.R.Read.remaining c.read_from.new.reader.inner.now) []
    × IsAtEnd (g.R.Read.remaining c.read_from.new.reader.inner.now)
    × IsUnserved c.read_from.new.self bytes
over g c bytes unserved none =
    let took = read_took g (goal.at.In-Ok-eq0 g c).After-read_from bytes unserved none _ c.in-Ok-eq0.is in
    let zero : c.in-Ok-eq0.field-0 ≡ 0 = grind (arith, nat_tests, c.in-Ok-eq0.field-0-test) in
    let nothing = no_bytes took.0 (took.3 ∙ zero) in (
      subst (Consumes _ _) nothing took.1,
      took.4 zero,
      subst (IsUnserved c.read_from.new.self) (ap (λ m. bytes ++ m) nothing ∙ append-nil bytes) took.2,
    )

-- behind the last line feed there are bytes
some_left : (g : Over) (c : In-Ok-eq0 g) (bytes : List ℕ) → IsUnserved c.args.buffer.now bytes → HasNoLineFeed bytes
    → (has_rest : Bool) → ((bytes : List ℕ) → IsUnserved c.read_from.new.self bytes
    → IsTrue has_rest ↔ (0 < length bytes)) → has_rest ≡ true → 0 < length bytes
some_left g c bytes unserved none has_rest is true_is = (is bytes (over g c bytes unserved none).2).0 true_is

-- or none
none_left : (bytes : List ℕ) (has_rest : Bool) → has_rest ≡ false → IsTrue has_rest ↔ (0 < length bytes)
    → [] ≡ rest_text bytes
none_left [] has_rest false_is is = refl
none_left (byte ∷ bytes) has_rest false_is is =
    let true_is : has_rest ≡ true = is.1 (omega arith) in
    absurd (cc)

-- what is held back could not be handed on
pub returns-in_err-hand_on-clause-came : goal.returns-in_err-hand_on-clause-came
returns-in_err-hand_on-clause-came g c bytes unserved none = record {
  came = [];
  sent = [];
  consumed = Consumes-nil _;
  appended = Appends-kept _ _ _ [] (Appends-nil _) c.hand_on.ensures.kept;
  holds = (
    reads_failed c.args.outlet.now.delivery _ bytes [] [] c.from_residual.result _ c.from_residual.ensures.0
        (refl, inl (gathers c.args.outlet.now.delivery _ c.in_err-hand_on.ensures.late c.args.outlet.now.few, refl)),
    where_failed c.from_residual.result _ c.from_residual.ensures.0,
  );
}

pub returns-in_err-send-in-Ok-eq0-clause-came : goal.returns-in_err-send-in-Ok-eq0-clause-came
returns-in_err-send-in-Ok-eq0-clause-came g c bytes unserved none =
    let at = (goal.at.returns-in_err-send-in-Ok-eq0-clause-came g c).In-Ok-eq0 in
    let is_over = over g at bytes unserved none in
    let some = some_left g at bytes unserved none c.has_rest.result c.has_rest.ensures c.if-has_rest.true in
    let part = c.in_err-send-in-Ok-eq0.ensures.sent in record {
      came = [];
      sent = part.0;
      consumed = is_over.0;
      appended = Appends-trans _ _ _ [] part.0 (Appends-kept _ _ _ [] (Appends-nil _) c.hand_on.ensures.kept) part.3;
      holds = (
        reads_failed c.args.outlet.now.delivery _ bytes [] part.0 c.from_residual-in_err-send-in-Ok-eq0.result _
            c.from_residual-in_err-send-in-Ok-eq0.ensures.0
            (refl, inr (is_over.1, some, part.1, sym (line_for bytes some) ∙ part.2)),
        where_failed c.from_residual-in_err-send-in-Ok-eq0.result _ c.from_residual-in_err-send-in-Ok-eq0.ensures.0,
      );
    }

pub returns-in_err-send-in-Ok-eq0-clause-becomes : goal.returns-in_err-send-in-Ok-eq0-clause-becomes
returns-in_err-send-in-Ok-eq0-clause-becomes g c =
    goes_on g.W.Recipient _ _ _ c.hand_on.ensures.becomes c.send.ensures.becomes

pub returns-in_err-after_replies-in-Ok-eq0-clause-came : goal.returns-in_err-after_replies-in-Ok-eq0-clause-came
returns-in_err-after_replies-in-Ok-eq0-clause-came g c bytes unserved none =
    let at = (goal.at.returns-in_err-after_replies-in-Ok-eq0-clause-came g c).In-Ok-eq0 in
    let is_over = over g at bytes unserved none in
    let some = some_left g at bytes unserved none c.has_rest.result c.has_rest.ensures c.if-has_rest.true in
    let text = text_of (lines.Err words.Line) in record {
      came = [];
      sent = text;
      consumed = is_over.0;
      appended = Appends-kept _ _ _ text
          (Appends-trans _ _ _ [] text (Appends-kept _ _ _ [] (Appends-nil _) c.hand_on.ensures.kept)
          c.in_ok-send-in-Ok-eq0.ensures.sent) c.after_replies.ensures.kept;
      holds = (
        reads_failed c.args.outlet.now.delivery _ bytes [] text
            c.from_residual-in_err-after_replies-in-Ok-eq0.result _
            c.from_residual-in_err-after_replies-in-Ok-eq0.ensures.0
            (refl, inr (is_over.1, some, [], sym (line_for bytes some) ∙ sym (append-nil text))),
        where_failed c.from_residual-in_err-after_replies-in-Ok-eq0.result _
            c.from_residual-in_err-after_replies-in-Ok-eq0.ensures.0,
      );
    }

pub returns-in_err-after_replies-in-Ok-eq0-clause-becomes : goal.returns-in_err-after_replies-in-Ok-eq0-clause-becomes
returns-in_err-after_replies-in-Ok-eq0-clause-becomes g c =
    goes_on g.W.Recipient _ _ _ (goes_on g.W.Recipient _ _ _ c.hand_on.ensures.becomes c.send.ensures.becomes)
    c.after_replies.ensures.becomes

pub returns-in_ok-after_replies-in-Ok-eq0-clause-becomes : goal.returns-in_ok-after_replies-in-Ok-eq0-clause-becomes
returns-in_ok-after_replies-in-Ok-eq0-clause-becomes g c =
    goes_on g.W.Recipient _ _ _ (goes_on g.W.Recipient _ _ _ c.hand_on.ensures.becomes c.send.ensures.becomes)
    c.after_replies.ensures.becomes

pub returns-in_ok-after_replies-in-Ok-eq0-clause-came : goal.returns-in_ok-after_replies-in-Ok-eq0-clause-came
returns-in_ok-after_replies-in-Ok-eq0-clause-came g c bytes unserved none =
    let at = (goal.at.returns-in_ok-after_replies-in-Ok-eq0-clause-came g c).In-Ok-eq0 in
    let is_over = over g at bytes unserved none in
    let some = some_left g at bytes unserved none c.has_rest.result c.has_rest.ensures c.if-has_rest.true in
    let text = text_of (lines.Err words.Line) in record {
      came = [];
      sent = text;
      consumed = is_over.0;
      appended = Appends-kept _ _ _ text
          (Appends-trans _ _ _ [] text (Appends-kept _ _ _ [] (Appends-nil _) c.hand_on.ensures.kept)
          c.in_ok-send-in-Ok-eq0.ensures.sent) c.after_replies.ensures.kept;
      holds = (
        (is_over.1, refl, line_for bytes some),
        subst (λ (t : List ℕ). Passes g.W.Recipient c.args.outlet.now t c.after_replies.new.self) (append-nil text)
            (passes_then g.W.Recipient _ _ _ text [] (passes_then g.W.Recipient _ _ _ [] text
            c.in_ok-hand_on.ensures.passes c.in_ok-send-in-Ok-eq0.ensures.passes)
            c.in_ok-after_replies-in-Ok-eq0.ensures.passes),
      );
    }

pub returns-else-has_rest-clause-came : goal.returns-else-has_rest-clause-came
returns-else-has_rest-clause-came g c bytes unserved none =
    let is_over = over g (goal.at.returns-else-has_rest-clause-came g c).In-Ok-eq0 bytes unserved none in record {
      came = [];
      sent = [];
      consumed = is_over.0;
      appended = Appends-kept _ _ _ [] (Appends-nil _) c.hand_on.ensures.kept;
      holds = (
        (
          is_over.1,
          refl,
          none_left bytes c.has_rest.result c.if-has_rest.false (c.has_rest.ensures bytes is_over.2),
        ),
        c.in_ok-hand_on.ensures.passes,
      );
    }

-- the read brought bytes
pub returns-in-Ok-clause-came : goal.returns-in-Ok-clause-came
returns-in-Ok-clause-came g c bytes unserved none =
    let took = read_took g (goal.at.returns-in-Ok-clause-came g c).After-read_from bytes unserved none _ c.in-Ok.is in
    record {
      came = took.0;
      sent = [];
      consumed = took.1;
      appended = Appends-kept _ _ _ [] (Appends-nil _) c.hand_on.ensures.kept;
      holds = ((refl, took.2), c.in_ok-hand_on.ensures.passes);
    }

-- the read was interrupted
pub returns-in-Err-clause-came : goal.returns-in-Err-clause-came
returns-in-Err-clause-came g c bytes unserved none =
    let took = read_took g (goal.at.returns-in-Err-clause-came g c).After-read_from bytes unserved none _ c.in-Err.is in
    record {
      came = [];
      sent = [];
      consumed = Consumes-kept _ _ _ [] (Consumes-nil _) took.0;
      appended = Appends-kept _ _ _ [] (Appends-nil _) c.hand_on.ensures.kept;
      holds = (
        (refl, subst (IsUnserved c.read_from.new.self) (sym (append-nil bytes)) took.1),
        c.in_ok-hand_on.ensures.passes,
      );
    }

-- at the end of the input the last bytes are due an answer
pub send-requires : goal.send-requires
send-requires g c =
    let at = (goal.at.send-requires g c).In-Ok-eq0 in
    let (bytes, unserved, none, due) = c.requires.due_at_end in
    let is_over = over g at bytes unserved none in
    let some = some_left g at bytes unserved none c.has_rest.result c.has_rest.ensures c.if-has_rest.true in
    may_send_then g.W.Recipient c.args.outlet.now c.hand_on.new.self c.args.shown.now [] (text_of (lines.Err words.Line))
    c.in_ok-hand_on.ensures.passes
    (subst (MaySend g.W.Recipient c.args.outlet.now c.args.shown.now) (sym (line_for bytes some))
    (due c.read_from.new.reader.inner.now is_over.0 is_over.1))
