-- What a writer has got of what was sent to an outlet, and what is held back.
use Rattle.std.proofs.Common.{◌≡◌, ◌≤◌, ℕ, List, [], ◌++◌, Option, Some, None, Result, Ok, Err}
use Rattle.std.proofs.Common.{refl, sym, ap, ◌∙◌, append_assoc, length, arith}
use Rattle.std.proofs.lemmas.List.{append-nil, append_cancel_left}
use Rattle.rb_protocol.specs.declared.streams.recipient.Recipient as Recipient
use Rattle.std.specs.Io.KnownBytes.{Appends, append_known}
use Rattle.rb_protocol.specs.Sending.{Sends}
use Rattle.rb_protocol.specs.Writes.{FailsNoMore, TellsOf}
use Rattle.rb_protocol.specs.declared.streams.writer_state.WriterState.{WriterState}
use Rattle.rb_protocol.specs.declared.streams.writer_status.WriterStatus.{WriterStatus}
use Rattle.rb_protocol.specs.declared.streams.writing.WriteFault.{WriteFault}
use Rattle.rb_protocol.proofs.WrittenBytes.{writes_same, writes_then}
use Rattle.rb_session.specs.Growth.{KeepsFront, grows_same, grows_on, all_got}
use Rattle.rb_session.specs.Outlet.{sent_to, Becomes}
use Rattle.rb_session.specs.Rules.{HadGotBehind}
use Rattle.rb_session.specs.declared.outlet.Outlet.{Outlet}

-- what was sent is behind what there was
pub sends_grow : {T : Type 0} (result : Result T WriteFault) (old new : Option (List ℕ)) (text : List ℕ)
    → Sends result old text new → KeepsFront old new
sends_grow (Ok done) old new text all = (text, all)
sends_grow (Err fault) old new text (sent, unsent, parts, some) = (sent, some)

-- what is sent to an outlet that holds nothing back at first and at last goes to its writer
nothing_before : (old got : Option (List ℕ)) (before sent : List ℕ) → before ≡ []
    → Appends (append_known old before) got sent → Appends old got sent
nothing_before None got before sent empty all = tt
nothing_before (Some xs) None before sent empty all = absurd all
nothing_before (Some xs) (Some ys) before sent empty all =
    all ∙ ap (λ b. (xs ++ b) ++ sent) empty ∙ ap (λ b. b ++ sent) (append-nil xs)

pub all_sent : (old new : Option (List ℕ)) (before gathered sent : List ℕ) → before ≡ [] → gathered ≡ []
    → Appends (append_known old before) (append_known new gathered) sent → Appends old new sent
all_sent old new before gathered sent empty none all =
    nothing_before old new before sent empty (all_got (append_known old before) new gathered sent none all)

-- Of what was sent to an outlet that held nothing back at first, the writer got a first part, and the rest is held back.
pub record IsShared (old new : Option (List ℕ)) (most : ℕ) (passed : List ℕ) : Type 0 where
  pub sent : List ℕ
  pub rest : List ℕ
  pub parts : passed ≡ sent ++ rest
  pub few : length rest ≤ most
  pub got : Appends old new sent

pub is_shared : (old new : Option (List ℕ)) (most : ℕ) (before gathered passed : List ℕ) → before ≡ []
    → length gathered ≤ most → KeepsFront old new
    → Appends (append_known old before) (append_known new gathered) passed → IsShared old new most passed
is_shared None new most before gathered passed empty few grows all =
    record { sent = passed; rest = []; parts = sym (append-nil passed); few = omega arith; got = tt }
is_shared (Some xs) None most before gathered passed empty few (more, grown) all = absurd grown
is_shared (Some xs) (Some ys) most before gathered passed empty few (more, grown) all = record {
  sent = more;
  rest = gathered;
  parts = append_cancel_left xs passed (more ++ gathered)
      (sym (all ∙ ap (λ b. (xs ++ b) ++ passed) empty ∙ ap (λ b. b ++ passed) (append-nil xs))
      ∙ ap (λ b. b ++ gathered) grown ∙ append_assoc xs more gathered);
  few = few;
  got = grown;
}

-- what a writer tells after nothing failed it tells from before
pub tells_then : {T E W : Type 0} (result : Result T E) (one : WriterState) (two three : WriterStatus W) → FailsNoMore one two
    → TellsOf result two.state three → TellsOf result one three
tells_then (Ok done) one two three well told = λ failed. well (told failed)
tells_then (Err fault) one two three well told = told

-- an outlet that holds nothing back at first was sent just what its writer had got
pub known_at_first : (got got' : Option (List ℕ)) (gathered : List ℕ) → gathered ≡ [] → got ≡ got'
    → append_known got gathered ≡ got'
known_at_first None got' gathered none same = same
known_at_first (Some xs) got' gathered none same =
    ap (λ b. Some (xs ++ b)) none ∙ ap (λ b. Some b) (append-nil xs) ∙ same

module _ {W V : Type 0} (words : Recipient.Ghosts W V) where
  -- an outlet may stay as it is
  pub stays : (outlet : Outlet W) → Becomes words outlet outlet
  stays outlet = record {
    on = writes_same outlet.writer;
    grows = grows_same _;
    delivery = refl;
  }

  -- what an outlet becomes in two steps it may become
  pub goes_on : (one two three : Outlet W) → Becomes words one two → Becomes words two three
      → Becomes words one three
  goes_on one two three first second = record {
    on = writes_then first.on second.on;
    grows = grows_on _ _ _ first.grows second.grows;
    delivery = second.delivery ∙ first.delivery;
  }

  -- where nothing is held back, the writer has got all that was sent
  pub gets : (old new : Outlet W) (text : List ℕ) → new.gathered.items ≡ []
      → Appends (sent_to words old) (sent_to words new) text
      → HadGotBehind words.contents (sent_to words old) text
  gets old new text clear sent = (new.writer.inner.now, all_got _ _ new.gathered.items text clear sent)
