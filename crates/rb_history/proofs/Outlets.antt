-- What becomes of an outlet when bytes are pushed, one piece behind the other.
use Rattle.std.proofs.Common.{◌≡◌, ℕ, List, [], ◌++◌, Option, Result, Ok, Err, sym, ap, subst, ◌∙◌, append_assoc, append-nil}
use Rattle.std.specs.Prelude.{IsOk, IsErr}
use Rattle.std.specs.Io.KnownBytes.{Appends, Keeps}
use Rattle.std.specs.declared.io.Write as Write
use Rattle.std.proofs.KnownBytes.{Appends-trans}
use Rattle.rb_protocol.specs.Sending.{Sends}
use Rattle.rb_protocol.proofs.Sending.{sends_all}
use Rattle.rb_protocol.specs.Writes.{WritesOn}
use Rattle.rb_protocol.proofs.WrittenBytes.{writes_same, writes_then}
use Rattle.rb_protocol.specs.declared.streams.limited_writer.LimitedWriter.{LimitedWriter}
use Rattle.rb_protocol.specs.declared.streams.writing.WriteFault.{WriteFault}
use Rattle.rb_history.specs.Outlet.{IsShared, Holds, Grows}
use Rattle.rb_history.specs.declared.outlet.Outlet.{Outlet}

-- more was gathered
pub shares_more : (sent : Result (Unit {0}) WriteFault) (got got' : Option (List ℕ)) (gathered after text bytes : List ℕ)
    → after ≡ gathered ++ bytes → IsShared sent got got' gathered text → IsShared sent got got' after (text ++ bytes)
shares_more (Ok done) got got' gathered after text bytes more share = record {
  passed = share.passed;
  rest = share.rest ++ bytes;
  parts = ap (λ t. t ++ bytes) share.parts ∙ append_assoc share.passed share.rest bytes;
  came = share.came;
  held = ap (λ t. t ++ bytes) share.held ∙ sym more;
}
shares_more (Err fault) got got' gathered after text bytes more share = record {
  passed = share.passed;
  rest = share.rest ++ bytes;
  parts = ap (λ t. t ++ bytes) share.parts ∙ append_assoc share.passed share.rest bytes;
  came = share.came;
  held = tt;
}

-- what was gathered was sent, or a first part of it
pub shares_sent : (sent sent' : Result (Unit {0}) WriteFault) (got got' got'' : Option (List ℕ)) (gathered bytes after text : List ℕ)
    → IsOk sent → bytes ≡ gathered → after ≡ [] → Sends sent' got' bytes got'' → IsShared sent got got' gathered text
    → IsShared sent' got got'' after (text ++ [])
shares_sent (Err fault) sent' got got' got'' gathered bytes after text fine same none sends share = absurd (cc)
shares_sent (Ok done) (Ok done') got got' got'' gathered bytes after text fine same none sends share = record {
  passed = share.passed ++ bytes;
  rest = [];
  parts = append-nil text ∙ share.parts ∙ ap (λ t. share.passed ++ t) (share.held ∙ sym same) ∙ sym (append-nil (share.passed ++ bytes));
  came = Appends-trans got got' got'' share.passed bytes share.came sends;
  held = sym none;
}
shares_sent (Ok done) (Err fault) got got' got'' gathered bytes after text fine same none (part, left, parts, came) share = record {
  passed = share.passed ++ part;
  rest = left;
  parts = append-nil text ∙ share.parts ∙ ap (λ t. share.passed ++ t) (share.held ∙ sym same ∙ parts) ∙ sym (append_assoc share.passed part left);
  came = Appends-trans got got' got'' share.passed part share.came came;
  held = tt;
}

-- after a write that failed, what is gathered is lost
pub shares_lost : (sent : Result (Unit {0}) WriteFault) (got got' : Option (List ℕ)) (gathered after text : List ℕ)
    → IsErr sent → IsShared sent got got' gathered text → IsShared sent got got' after (text ++ [])
shares_lost (Ok done) got got' gathered after text failed share = absurd (cc)
shares_lost (Err fault) got got' gathered after text failed share = record {
  passed = share.passed;
  rest = share.rest;
  parts = append-nil text ∙ share.parts;
  came = share.came;
  held = tt;
}

-- all was sent, and it was flushed or that failed
pub all_sent : {T : Type 0} (result : Result T WriteFault) (sent : Result (Unit {0}) WriteFault) (got before now : Option (List ℕ)) (gathered text : List ℕ)
    → IsOk sent → gathered ≡ [] → Keeps before now → IsShared sent got before gathered (text ++ []) → Sends result got text now
all_sent result (Err fault) got before now gathered text fine none kept share = absurd (cc)
all_sent result (Ok done) got before now gathered text fine none kept share =
    let same : share.passed ≡ text = sym (append-nil share.passed) ∙ ap (λ t. share.passed ++ t) (sym (share.held ∙ none)) ∙ sym share.parts ∙ append-nil text in
    sends_all result got before now text (subst (Appends got before) same share.came) kept

-- a write failed, so a first part was sent
pub part_sent : {T : Type 0} (result : Result T WriteFault) (sent : Result (Unit {0}) WriteFault) (got now : Option (List ℕ)) (gathered text : List ℕ)
    → IsErr result → IsShared sent got now gathered (text ++ []) → Sends result got text now
part_sent (Ok done) sent got now gathered text failed share = absurd (cc)
part_sent (Err fault) sent got now gathered text failed share =
    (share.passed, share.rest, sym (append-nil text) ∙ share.parts, share.came)

module _ {W : Type 0} (writer : Write.Ghosts W) where
  -- the same bytes, spelled otherwise
  pub grows_as : (old : Outlet W writer) (one two : List ℕ) (new : Outlet W writer) → one ≡ two
      → Grows writer old one new → Grows writer old two new
  grows_as old one two new same grown = subst (λ t. Grows writer old t new) same grown

  -- bytes behind others
  pub grows_then : (one two three : Outlet W writer) (first second : List ℕ) → Grows writer one first two
      → Grows writer two second three → Grows writer one (first ++ second) three
  grows_then one two three first second begun more = record {
    on = writes_then begun.on more.on;
    holds = λ got text held. subst (λ t. Holds writer got t three) (append_assoc text first second)
        (more.holds got (text ++ first) (begun.holds got text held));
  }

  -- bytes are gathered
  pub grows_more : (old new : Outlet W writer) (bytes : List ℕ) → new.writer ≡ old.writer → new.sent ≡ old.sent
      → new.gathered.items ≡ old.gathered.items ++ bytes → Grows writer old bytes new
  grows_more old new bytes same_writer same_sent more = record {
    on = subst (λ (w : LimitedWriter W). WritesOn old.writer w) (sym same_writer) (writes_same old.writer);
    holds = λ got text held. subst (λ (w : LimitedWriter W). IsShared new.sent got (writer.contents w.inner.now) new.gathered.items (text ++ bytes)) (sym same_writer)
        (subst (λ s. IsShared s got (writer.contents old.writer.inner.now) new.gathered.items (text ++ bytes)) (sym same_sent)
        (shares_more old.sent got (writer.contents old.writer.inner.now) old.gathered.items new.gathered.items text bytes more held));
  }

  -- what was gathered is handed on
  pub grows_sent : (old new : Outlet W writer) (bytes : List ℕ) → IsOk old.sent → bytes ≡ old.gathered.items → new.gathered.items ≡ []
      → Sends new.sent (writer.contents old.writer.inner.now) bytes (writer.contents new.writer.inner.now) → WritesOn old.writer new.writer
      → Grows writer old [] new
  grows_sent old new bytes fine same none sends on = record {
    on = on;
    holds = λ got text held. shares_sent old.sent new.sent got (writer.contents old.writer.inner.now) (writer.contents new.writer.inner.now)
        old.gathered.items bytes new.gathered.items text fine same none sends held;
  }

  -- a write had failed, so nothing is written
  pub grows_stopped : (old new : Outlet W writer) → IsErr old.sent → new.writer ≡ old.writer → new.sent ≡ old.sent → Grows writer old [] new
  grows_stopped old new failed same_writer same_sent = record {
    on = subst (λ (w : LimitedWriter W). WritesOn old.writer w) (sym same_writer) (writes_same old.writer);
    holds = λ got text held. subst (λ (w : LimitedWriter W). IsShared new.sent got (writer.contents w.inner.now) new.gathered.items (text ++ [])) (sym same_writer)
        (subst (λ s. IsShared s got (writer.contents old.writer.inner.now) new.gathered.items (text ++ [])) (sym same_sent)
        (shares_lost old.sent got (writer.contents old.writer.inner.now) old.gathered.items new.gathered.items text failed held));
  }
