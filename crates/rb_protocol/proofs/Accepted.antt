-- What a recipient accepts of a text that is sent piece by piece.
use Rattle.std.proofs.Common.{◌≡◌, ℕ, ◌-◌, List, [], ◌++◌, Option, length, take, drop, sym, ap, ◌∙◌, arith, append_assoc, length-drop, take_all}
use Rattle.std.proofs.lemmas.List.{append-nil, take-append-drop}
use Rattle.std.specs.Io.KnownBytes.{Appends}
use Rattle.std.proofs.KnownBytes.{Appends-trans}
use Rattle.rb_protocol.specs.Sending.{Accepts}

-- the first bytes, and what is left of them once some were taken, are a whole
pub parts_of : (bytes : List ℕ) (taken : ℕ) → bytes ≡ take taken bytes ++ (take (length bytes - taken) (drop taken bytes) ++ [])
parts_of bytes taken =
    sym (take-append-drop taken bytes)
    ∙ ap (λ rest. take taken bytes ++ rest) (sym (append-nil _
    ∙ take_all (length bytes - taken) (drop taken bytes) (omega (arith, length-drop taken bytes))))

module _ {W V : Type 0} (contents : W → Option (List ℕ)) (demands : W → V → List ℕ → Type 0) (old : W) (shown : V)
    (one two : List ℕ) (accepts : Accepts contents demands old shown (one ++ two)) where
  -- the first part of a text
  pub accepts_first : Accepts contents demands old shown one
  accepts_first earlier piece later new is got =
      accepts earlier piece (later ++ two) new
      (ap (λ t. t ++ two) is ∙ append_assoc earlier (piece ++ later) two
      ∙ ap (λ t. earlier ++ t) (append_assoc piece later two)) got

  -- and then the second
  pub accepts_then : (new : W) → Appends (contents old) (contents new) one → Accepts contents demands new shown two
  accepts_then new had earlier piece later newer is got =
      accepts (one ++ earlier) piece later newer
      (ap (λ t. one ++ t) is ∙ sym (append_assoc one earlier (piece ++ later)))
      (Appends-trans (contents old) (contents new) (contents newer) one earlier had got)
