-- The writer got what was gathered, or the first bytes of it before a failing write: these are gathered no more.
use Rattle.std.proofs.Common.{◌≡◌, ℕ, List, ◌++◌, take, drop, refl, sym, ap, ◌∙◌, take-append-drop}
use Rattle.std.proofs.KnownBytes.{Appends-kept, Keeps-trans, append_known-kept, append_known-moved}
use Rattle.rb_protocol.proofs.WrittenBytes.{writes_then}
use Rattle.rb_session.proofs.outlet.Outlet.hand_on.Goals as goal

-- what was taken and what is left are what was gathered
parts : (taken : ℕ) (gathered front rest : List ℕ) → front ≡ gathered → rest ≡ drop taken gathered
    → gathered ≡ take taken front ++ rest
parts taken gathered front rest same left =
    sym (take-append-drop taken gathered) ∙ ap (λ f. take taken f ++ drop taken gathered) (sym same)
    ∙ ap (λ r. take taken front ++ r) (sym left)

pub returns-then-not-is_empty-clause-kept : goal.returns-then-not-is_empty-clause-kept
returns-then-not-is_empty-clause-kept g c =
    append_known-moved _ _ _ _ _ c.write_out-taken.ensures.taken
    (parts c.write_out-taken.result c.args.self.now.gathered.items c.deref.result.now c.remove_first.new.bytes.items
    c.deref.ensures.value c.remove_first.ensures)

pub returns-clause-kept : goal.returns-clause-kept
returns-clause-kept g c = Keeps-trans _ _ _
    (append_known-moved _ _ _ _ _ c.write_out-taken.ensures.taken
    (parts c.write_out-taken.result c.args.self.now.gathered.items c.deref.result.now c.remove_first.new.bytes.items
    c.deref.ensures.value c.remove_first.ensures))
    (append_known-kept _ _ c.remove_first.new.bytes.items c.flush.ensures.kept)

pub returns-then-not-is_empty-clause-becomes : goal.returns-then-not-is_empty-clause-becomes
returns-then-not-is_empty-clause-becomes g c = record {
  on = c.write_out-taken.ensures.on;
  grows = (take c.write_out-taken.result c.deref.result.now, c.write_out-taken.ensures.taken);
  delivery = refl;
}

pub returns-clause-becomes : goal.returns-clause-becomes
returns-clause-becomes g c = record {
  on = writes_then c.write_out-taken.ensures.on c.flush.ensures.on;
  grows = (
    take c.write_out-taken.result c.deref.result.now,
    Appends-kept _ _ _ _ c.write_out-taken.ensures.taken c.flush.ensures.kept,
  );
  delivery = refl;
}
