-- What a writer has got of bytes that are written by one write after the other.
use Rattle.std.proofs.Common.{◌≡◌, ℕ, ◌+◌, ◌-◌, ◌≤◌, List, Option, length, take, drop, refl, sym, subst, ◌∙◌, arith, length-drop, take_all}
use Rattle.std.specs.Io.KnownBytes.{Appends}
use Rattle.rb_protocol.specs.Writes.{WritesOn}
use Rattle.rb_protocol.specs.declared.streams.limited_writer.LimitedWriter.{LimitedWriter}
use Rattle.std.proofs.KnownBytes.{Appends-trans}
use Rattle.std.proofs.Math.Seq.{take-add}

-- the writer got the first bytes
pub record HasTaken (old new : Option (List ℕ)) (bytes : List ℕ) (taken : ℕ) : Type 0 where
  pub within : taken ≤ length bytes
  pub written : Appends old new (take taken bytes)

-- a write took the first n bytes of what was left
pub appends_more : (old mid new : Option (List ℕ)) (bytes : List ℕ) (taken n : ℕ) → Appends old mid (take taken bytes)
    → Appends mid new (take n (take (length bytes - taken) (drop taken bytes))) → Appends old new (take (taken + n) bytes)
appends_more old mid new bytes taken n before more =
    let rest : take (length bytes - taken) (drop taken bytes) ≡ drop taken bytes = take_all (length bytes - taken) (drop taken bytes) (omega (arith, length-drop taken bytes)) in
    subst (Appends old new) (sym (take-add taken n bytes))
    (Appends-trans old mid new _ _ before (subst (λ r. Appends mid new (take n r)) rest more))

module _ {W : Type 0} where
  -- a writer may stay as it is
  pub writes_same : (writer : LimitedWriter W) → WritesOn writer writer
  writes_same writer = record {
    same_reference = refl;
    same_status = refl;
    counted = omega arith;
    first = refl;
    last = λ same. same;
  }

  -- and become in two steps what it may become
  pub writes_then : {one two three : LimitedWriter W} → WritesOn one two → WritesOn two three → WritesOn one three
  writes_then first second = record {
    same_reference = second.same_reference ∙ first.same_reference;
    same_status = second.same_status ∙ first.same_status;
    counted = omega (arith, first.counted, second.counted);
    first = second.first ∙ first.first;
    last = λ same. second.last (first.last same);
  }
