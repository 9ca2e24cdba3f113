-- What an outlet passes on, and what its writer accepts by then.
use Rattle.std.proofs.Common.{◌≡◌, ℕ, List, [], ◌++◌, Option, Result, Ok, Err, sym, ap, subst, ◌∙◌, append_assoc}
use Rattle.std.specs.Prelude.{OnOk, IsErr}
use Rattle.std.proofs.lemmas.List.{append-nil}
use Rattle.std.specs.Io.KnownBytes.{Consumes, IsAtEnd}
use Rattle.std.proofs.KnownBytes.{Appends-nil, Appends-trans}
use Rattle.rb_protocol.specs.declared.streams.recipient.Recipient as Recipient
use Rattle.rb_protocol.specs.Sending.{Accepts, Sends}
use Rattle.rb_protocol.specs.declared.streams.writing.WriteFault.{WriteFault}
use Rattle.rb_protocol.proofs.Accepted.{accepts_first, accepts_then}
use Rattle.rb_session.specs.Outlet.{Passes, MaySend, MayHandOn}
use Rattle.rb_session.specs.Ran.{DemandsOnlyAnswers, ServesSome}
use Rattle.rb_session.specs.Rules.{SessionRules}
use Rattle.rb_session.specs.Turn.{Point}
use Rattle.rb_session.specs.declared.outlet.Outlet.{Outlet}

-- if something failed, nothing is claimed
pub where_failed : {T E : Type 0} (result : Result T E) (P : Type 0) → IsErr result → OnOk result P
where_failed (Ok done) P failed = absurd (cc)
where_failed (Err fault) P failed = tt

module _ {W V : Type 0} (words : Recipient.Ghosts W V) where
  -- an outlet that stays as it is was sent nothing
  pub passes_nothing : (outlet : Outlet W) → Passes words outlet [] outlet
  passes_nothing outlet = record {
    handed = [];
    parts = append-nil outlet.gathered.items;
    got = Appends-nil (words.contents outlet.writer.inner.now);
  }

  -- one text, and then another
  pub passes_then : (one two three : Outlet W) (first second : List ℕ) → Passes words one first two
      → Passes words two second three → Passes words one (first ++ second) three
  passes_then one two three first second before more = record {
    handed = before.handed ++ more.handed;
    parts = sym (append_assoc one.gathered.items first second) ∙ ap (λ t. t ++ second) before.parts
        ∙ append_assoc before.handed two.gathered.items second ∙ ap (λ t. before.handed ++ t) more.parts
        ∙ sym (append_assoc before.handed more.handed three.gathered.items);
    got = Appends-trans (words.contents one.writer.inner.now) (words.contents two.writer.inner.now)
        (words.contents three.writer.inner.now) before.handed more.handed before.got more.got;
  }

  -- and then nothing more
  pub passes_on : {T E : Type 0} (result : Result T E) (one two three : Outlet W) (text : List ℕ) → Passes words one text two
      → OnOk result (Passes words two [] three) → OnOk result (Passes words one text three)
  passes_on (Ok done) one two three text before more =
      subst (λ t. Passes words one t three) (append-nil text) (passes_then one two three text [] before more)
  passes_on (Err fault) one two three text before more = tt

  -- a text that goes to the writer at once, where nothing is held back
  pub passes_at_once : {T : Type 0} (result : Result T WriteFault) (one two three : Outlet W) (text line : List ℕ)
      → line ≡ text → Passes words one [] two → two.gathered.items ≡ [] → three.gathered.items ≡ []
      → Sends result (words.contents two.writer.inner.now) line (words.contents three.writer.inner.now)
      → OnOk result (Passes words one text three)
  passes_at_once (Ok done) one two three text line is before none nothing sent =
      passes_then one two three [] text before (record {
        handed = line;
        parts = ap (λ g. g ++ text) none ∙ sym is ∙ sym (append-nil line) ∙ ap (λ g. line ++ g) (sym nothing);
        got = sent;
      })
  passes_at_once (Err fault) one two three text line is before none nothing sent = tt

  -- of a text that may be sent the first part may
  pub may_send_first : (outlet : Outlet W) (shown : V) (one two : List ℕ) → MaySend words outlet shown (one ++ two)
      → MaySend words outlet shown one
  may_send_first outlet shown one two accepts =
      accepts_first words.contents words.demands outlet.writer.inner.now shown (outlet.gathered.items ++ one) two
      (subst (Accepts words.contents words.demands outlet.writer.inner.now shown)
      (sym (append_assoc outlet.gathered.items one two)) accepts)

  -- and what is held back may be handed on
  pub may_hand_on : (outlet : Outlet W) (shown : V) (text : List ℕ) → MaySend words outlet shown text
      → MayHandOn words outlet shown
  may_hand_on outlet shown text accepts =
      accepts_first words.contents words.demands outlet.writer.inner.now shown outlet.gathered.items text accepts

  -- once the first part was sent, the second may be
  pub may_send_then : (old new : Outlet W) (shown : V) (one two : List ℕ) → Passes words old one new
      → MaySend words old shown (one ++ two) → MaySend words new shown two
  may_send_then old new shown one two passes accepts =
      accepts_then words.contents words.demands old.writer.inner.now shown passes.handed (new.gathered.items ++ two)
      (subst (Accepts words.contents words.demands old.writer.inner.now shown)
      (sym (append_assoc old.gathered.items one two) ∙ ap (λ t. t ++ two) passes.parts
      ∙ append_assoc passes.handed new.gathered.items two) accepts) new.writer.inner.now passes.got

-- A recipient that demands only answers accepts what answers the lines that were served.
module _ {S I W V : Type 0} (rules : SessionRules S) (from : Point S) (shows : S → V → Type 0)
    (remaining : I → Option (List ℕ)) (reader : I) (words : Recipient.Ghosts W V) (old : Outlet W)
    (fair : DemandsOnlyAnswers rules from shows remaining reader words.contents words.demands old.writer.inner.now)
    (nothing : old.gathered.items ≡ []) where
  pub may_answer : (reader' : I) (came sent more : List ℕ) (to : Point S) (shown : V) (new : Outlet W)
      → Consumes (remaining reader) (remaining reader') came → Passes words old sent new
      → ServesSome rules (IsAtEnd (remaining reader')) from came (sent ++ more) to → shows to.desk shown
      → MaySend words new shown more
  may_answer reader' came sent more to shown new read passes serves shows earlier piece later newer is got =
      let parts : sent ++ more ≡ ((passes.handed ++ earlier) ++ piece) ++ later =
      ap (λ t. t ++ more) (ap (λ g. g ++ sent) (sym nothing) ∙ passes.parts)
      ∙ append_assoc passes.handed new.gathered.items more ∙ ap (λ t. passes.handed ++ t) is
      ∙ sym (append_assoc passes.handed earlier (piece ++ later))
      ∙ sym (append_assoc (passes.handed ++ earlier) piece later) in
      fair reader' newer came (passes.handed ++ earlier) piece to shown read
      (Appends-trans (words.contents old.writer.inner.now) (words.contents new.writer.inner.now)
      (words.contents newer) passes.handed earlier passes.got got)
      (later, subst (λ t. ServesSome rules (IsAtEnd (remaining reader')) from came t to) parts serves) shows

  -- what is held back of that may be handed on
  pub may_give : (reader' : I) (came sent : List ℕ) (to : Point S) (shown : V) (new : Outlet W)
      → Consumes (remaining reader) (remaining reader') came → Passes words old sent new
      → ServesSome rules (IsAtEnd (remaining reader')) from came sent to → shows to.desk shown
      → MayHandOn words new shown
  may_give reader' came sent to shown new read passes serves shows =
      may_hand_on words new shown [] (may_answer reader' came sent [] to shown new read passes
      (subst (λ t. ServesSome rules (IsAtEnd (remaining reader')) from came t to) (sym (append-nil sent)) serves) shows)
