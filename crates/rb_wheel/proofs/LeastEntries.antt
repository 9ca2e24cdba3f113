-- Which entries of a wheel are least, and which are due.
use Rattle.std.proofs.Common.{◌≡◌, ℕ, ◌≤◌, List, Option, Some, None, IfSome, sym, ap, ◌∙◌, subst, arith, ⊎_elim, ◌⊎◌}
use Rattle.std.specs.FinMap as map
use Rattle.std.specs.Ordering.{nat_cmp}
use Rattle.std.proofs.lemmas.Option.{none-some}
use Rattle.rb_timer.specs.Content.{Content, IsLeastSlot, IsLeastEntry}
use Rattle.rb_timer.specs.Slots.{content_of, get-content_of, content_empty}
use Rattle.rb_wheel.specs.Lists.{slot_expiry}
use Rattle.rb_wheel.specs.Wheel.{IsNoEarlier, IsFirst, IsWheel}
use Rattle.rb_wheel.specs.declared.marks.Marks.{Marks}
use Rattle.rb_wheel.proofs.Viewed.{if_some}

-- what is no earlier than the first is no earlier than an entry that precedes both
later_than : (first : Option (ℕ × ℕ)) (now x : ℕ) → IfSome first (λ best. now ≤ best.1) → IsNoEarlier first (Some x) → now ≤ x
later_than None now x no_worse later = absurd later
later_than (Some best) now x no_worse later = omega arith

module _ (expiries value cells : List (Option ℕ)) (early : Content) (room : ℕ) (waiting : Marks) (base len : ℕ) (first : Option (ℕ × ℕ))
    (wheel : IsWheel expiries cells early room waiting base len first) (same : expiries ≡ value) where
  at_slot : (slot : ℕ) → map.get (content_of value) slot ≡ slot_expiry expiries slot
  at_slot slot = get-content_of value slot ∙ ap (λ es. slot_expiry es slot) (sym same)

  -- what holds of each entry's expiry
  each_entry : (P : ℕ → Type 0) → ((slot e : ℕ) → slot_expiry expiries slot ≡ Some e → P e) → (slot : ℕ) → IfSome (map.get (content_of value) slot) P
  each_entry P each slot = subst (λ o. IfSome o P) (sym (at_slot slot)) (if_some (slot_expiry expiries slot) P (each slot))

  -- the early timer has only entries of the wheel
  early_entry : (slot e : ℕ) → map.get early slot ≡ Some e → slot_expiry expiries slot ≡ Some e
  early_entry slot e is = ⊎_elim (λ there. sym there ∙ is) (λ waits. absurd (none-some e (sym waits.0 ∙ is))) (wheel.stand.each slot)

  -- the earlier one of its least and the first is the least of all
  pub least_both : (entry now : ℕ × ℕ) → IsLeastSlot early entry.0 entry.1 → now.1 ≤ entry.1 → IfSome first (λ best. now.1 ≤ best.1)
      → (now ≡ entry) ⊎ (first ≡ Some now) → IsLeastSlot (content_of value) now.0 now.1
  least_both entry now least no_later no_worse either = record {
    present = at_slot now.0 ∙ ⊎_elim
        (λ is. subst (λ (x : ℕ × ℕ). slot_expiry expiries x.0 ≡ Some x.1) (sym is) (early_entry entry.0 entry.1 least.present))
        (λ is. subst (λ o. IfSome o (λ (x : ℕ × ℕ). slot_expiry expiries x.0 ≡ Some x.1)) is wheel.is_first.expires)
        either;
    least = each_entry (λ x. now.1 ≤ x) (λ other x is. ⊎_elim
        (λ there. let later = subst (λ o. IfSome o (λ another. entry.1 ≤ another)) (there ∙ is) (least.least other) in omega arith)
        (λ later. later_than first now.1 x no_worse (subst (IsNoEarlier first) is later))
        (wheel.is_first.others other));
  }

  -- if it has none, the first is the least of all
  module _ (no_early : early ≡ map.empty) where
    none_there : (slot : ℕ) → map.get early slot ≡ None
    none_there slot = ap (λ m. map.get m slot) no_early ∙ map.get-empty nat_cmp slot

    least_is : (entry : Option (ℕ × ℕ)) → IsFirst expiries early entry → IsLeastEntry (content_of value) entry
    least_is None none = content_empty value (λ slot. ap (λ es. slot_expiry es slot) (sym same)
        ∙ ⊎_elim (λ there. sym there ∙ none_there slot) (λ later. absurd later) (none.others slot))
    least_is (Some entry) is_first = record {
      present = at_slot entry.0 ∙ is_first.expires;
      least = each_entry (λ x. entry.1 ≤ x) (λ other x is. ⊎_elim
          (λ there. absurd (none-some x (sym (none_there other) ∙ there ∙ is)))
          (λ later. subst (IsNoEarlier (Some entry)) is later)
          (is_first.others other));
    }

    pub least_first : IsLeastEntry (content_of value) first
    least_first = least_is first wheel.is_first
