-- The least expiry of a row of slots, as far as a scan from its front has come.
use Rattle.std.proofs.Common.{◌≡◌, ℕ, ◌<◌, ◌≤◌, Bool, true, false, nat_le, List, Option, Some, None, IfSome, MatchOption, length, get_or, sym, ap, ◌∙◌, subst, refl, arith, ⊎_elim}
use Rattle.std.specs.Bool.{then_some}
use Rattle.std.specs.FinMap as map
use Rattle.std.specs.Ordering.{nat_cmp}
use Rattle.std.proofs.lemmas.List.{get_or_past}
use Rattle.std.proofs.lemmas.Bool.{cases_lt, leb-true, leb-false}
use Rattle.std.proofs.lemmas.Option.{IfSome_then}
use Rattle.rb_timer.specs.Content.{Content, IsLeastSlot, IsLeastEntry, IsDueEntry}
use Rattle.rb_timer.specs.Slots.{content_of, get-content_of, content_empty}

-- an expiry in the row, and no slot below `end` has a smaller one
pub record IsLeastAt (expiries : List (Option ℕ)) (end slot expiry : ℕ) : Type 0 where
  pub present : get_or expiries slot None ≡ Some expiry
  pub least : (other : ℕ) → other < end → IfSome (get_or expiries other None) (λ another. expiry ≤ another)

-- such an entry of the slots below `end`, or none where they have none
abbrev pub IsLeastBelow : List (Option ℕ) → ℕ → Option (ℕ × ℕ) → Type 0
IsLeastBelow expiries end None = (slot : ℕ) → slot < end → get_or expiries slot None ≡ None
IsLeastBelow expiries end (Some entry) = IsLeastAt expiries end entry.0 entry.1

module _ (expiries : List (Option ℕ)) (end : ℕ) where
  -- what holds of each slot of the row, and of none past its end, holds of each
  of_each_slot : (P : Option ℕ → Type 0) → length expiries ≤ end → P None → ((slot : ℕ) → slot < end → P (get_or expiries slot None)) → (slot : ℕ) → P (get_or expiries slot None)
  of_each_slot P all none below slot =
      ⊎_elim (λ within. below slot within)
      (λ past. subst P (sym (get_or_past expiries slot None (omega arith))) none)
      (cases_lt slot end)

  -- the least of the whole row is the content's
  pub IsLeastEntry-from_all : (least : Option (ℕ × ℕ)) → length expiries ≤ end → IsLeastBelow expiries end least → IsLeastEntry (content_of expiries) least
  IsLeastEntry-from_all None all none =
      content_empty expiries (of_each_slot (λ at. at ≡ None) all refl none)
  IsLeastEntry-from_all (Some entry) all least = record {
    present = get-content_of expiries entry.0 ∙ least.present;
    least = λ other. subst (λ at. IfSome at (λ another. entry.1 ≤ another)) (sym (get-content_of expiries other))
        (of_each_slot (λ at. IfSome at (λ another. entry.1 ≤ another)) all tt least.least other);
  }

-- no entry is due where the least is not
none_due : (content : Content) (now slot expiry : ℕ) → IsLeastSlot content slot expiry → now < expiry → IsDueEntry content now None
none_due content now slot expiry least later other =
    IfSome_then (map.get content other) (least.least other) (λ another larger. omega arith)

due_of_some : (content : Content) (now : ℕ) (entry : ℕ × ℕ) (is_due : Bool) → IsLeastSlot content entry.0 entry.1 → nat_le entry.1 now ≡ is_due → IsDueEntry content now (then_some is_due entry)
due_of_some content now entry true least tested = (least, leb-true entry.1 now tested)
due_of_some content now entry false least tested =
    none_due content now entry.0 entry.1 least (leb-false entry.1 now tested)

-- the least entry is the one that is due, if any is
pub IsDueEntry-from_least : (content : Content) (now : ℕ) (least due : Option (ℕ × ℕ)) → IsLeastEntry content least → MatchOption least (due ≡ None) (λ entry. due ≡ then_some (nat_le entry.1 now) entry) → IsDueEntry content now due
IsDueEntry-from_least content now None due empty same =
    subst (IsDueEntry content now) (sym same)
    (λ other. subst (λ at. IfSome at (λ expiry. now < expiry)) (sym (ap (λ of. map.get of other) empty ∙ map.get-empty nat_cmp other)) tt)
IsDueEntry-from_least content now (Some entry) due least same =
    subst (IsDueEntry content now) (sym same) (due_of_some content now entry (nat_le entry.1 now) least refl)
