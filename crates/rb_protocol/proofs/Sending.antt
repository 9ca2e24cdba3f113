-- What a writer has got of texts that are sent piece by piece.
use Rattle.std.proofs.Common.{◌≡◌, ℕ, List, [], ◌++◌, Option, Result, Ok, Err, refl, ap, sym, ◌∙◌, append_assoc}
use Rattle.std.proofs.lemmas.List.{append-nil}
use Rattle.std.specs.Prelude.{IsErr, true, is_err}
use Rattle.std.specs.Io.KnownBytes.{Appends, Keeps}
use Rattle.std.proofs.KnownBytes.{Appends-nil, Appends-trans, Appends-kept}
use Rattle.rb_protocol.specs.Sending.{Sends}
use Rattle.rb_protocol.specs.declared.streams.writing.WriteFault.{WriteFault}

-- a text behind another
pub sends_then : {T : Type 0} (result : Result T WriteFault) (old mid new : Option (List ℕ)) (one two : List ℕ) → Appends old mid one → Sends result mid two new → Sends result old (one ++ two) new
sends_then (Ok done) old mid new one two first second = Appends-trans old mid new one two first second
sends_then (Err fault) old mid new one two first (sent, unsent, parts, more) =
    (one ++ sent, unsent, ap (λ t. one ++ t) parts ∙ sym (append_assoc one sent unsent), Appends-trans old mid new one sent first more)

-- a text whose first part could not be sent
pub sends_part : {T : Type 0} (result : Result T WriteFault) (old new : Option (List ℕ)) (one two : List ℕ) → IsErr result
    → (sent : List ℕ) × (unsent : List ℕ) × (one ≡ sent ++ unsent) × Appends old new sent → Sends result old (one ++ two) new
sends_part (Ok done) old new one two failed sends = absurd (cc)
sends_part (Err other) old new one two failed (sent, unsent, parts, some) =
    (sent, unsent ++ two, ap (λ t. t ++ two) parts ∙ append_assoc sent unsent two, some)

-- all of a text was sent, and then something failed or not
pub sends_all : {T : Type 0} (result : Result T WriteFault) (old mid new : Option (List ℕ)) (text : List ℕ) → Appends old mid text → Keeps mid new → Sends result old text new
sends_all (Ok done) old mid new text all kept = Appends-kept old mid new text all kept
sends_all (Err fault) old mid new text all kept = (text, [], sym (append-nil text), Appends-kept old mid new text all kept)

-- nothing of a text was sent
pub sends_nothing : {T : Type 0} (result : Result T WriteFault) (old new : Option (List ℕ)) (text : List ℕ) → IsErr result → Keeps old new → Sends result old text new
sends_nothing (Ok done) old new text failed kept = absurd (cc)
sends_nothing (Err other) old new text failed kept = ([], text, refl, Appends-kept old old new [] (Appends-nil old) kept)

-- a text that was not sent whole
pub sends_failed : {T : Type 0} (result : Result T WriteFault) (old new : Option (List ℕ)) (text : List ℕ)
    → is_err result ≡ true → Sends result old text new
    → (sent : List ℕ) × (unsent : List ℕ) × (text ≡ sent ++ unsent) × Appends old new sent
sends_failed (Ok done) old new text failed all = absurd (cc)
sends_failed (Err fault) old new text failed sends = sends
