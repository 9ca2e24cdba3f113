-- What a writer has got of a history's text, by the result of writing it.
use Rattle.std.proofs.Common.{◌≡◌, ℕ, List, length, take, Option, Result, Err, ap, sym, subst, ◌∙◌}
use Rattle.std.proofs.Math.Seq.{take-append_seam}
use Rattle.std.specs.Prelude.{is_err, true}
use Rattle.std.specs.Io.KnownBytes.{Appends}
use Rattle.rb_protocol.specs.Sending.{Sends}
use Rattle.rb_protocol.proofs.Sending.{sends_failed}
use Rattle.rb_protocol.specs.declared.streams.writing.WriteFault.{WriteFault}
use Rattle.rb_history.specs.Written.{Writes}
use Rattle.rb_history.specs.declared.history_fault.HistoryFault.TheVariants.{Write}

-- a text that was not sent whole was written in part
pub writes_part : {T : Type 0} (result : Result T WriteFault) (old : Option (List ℕ)) (text : List ℕ) (new : Option (List ℕ))
    → is_err result ≡ true → Sends result old text new → Writes {X = Unit {0}} (Err Write) old text new
writes_part result old text new failed sends =
    let (sent, unsent, parts, some) = sends_failed result old new text failed sends in
    (length sent, subst (Appends old new) (sym (ap (take (length sent)) parts ∙ take-append_seam sent unsent)) some)
