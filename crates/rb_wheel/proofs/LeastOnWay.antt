-- What is known of a cell's slots, as far as a walk over it has come.
use Rattle.std.proofs.Common.{◌≡◌, ℕ, ◌<◌, ◌≤◌, List, length, Option, Some, None, IfSome, MatchOption, sym, ◌∙◌, subst, arith, ⊎_elim, ◌⊎◌, inl, inr}
use Rattle.rb_wheel.specs.Lists.{Slots, cell_at, slot_expiry, IsVacant, IsLeastIn}
use Rattle.std.proofs.lemmas.Option.{IfSome_then}
use Rattle.rb_wheel.specs.declared.node.Node.{Node}
use Rattle.rb_wheel.specs.WheelLinks.{head_at, next_in, slots_of, AreSoundLists}
use Rattle.rb_wheel.proofs.HeldCells.{holds}
use Rattle.rb_wheel.proofs.Members.{Reaches, met, left, left-next}
use Rattle.rb_wheel.proofs.Members.Reaches.{here, later}
use Rattle.rb_wheel.proofs.Viewed.{cell_at-viewed, if_some}
use Rattle.rb_wheel.proofs.WrittenLinks.{in_room}

-- the slot's expiry is no earlier than the best
abbrev pub IsPassed : List (Option ℕ) → Option (ℕ × ℕ) → ℕ → Type 0
IsPassed expiries None slot = ⊥
IsPassed expiries (Some best) slot = IfSome (slot_expiry expiries slot) (λ expiry. best.1 ≤ expiry)

-- the best is an entry of the cell
pub record IsEntryOf (cells expiries : List (Option ℕ)) (at : ℕ) (best : ℕ × ℕ) : Type 0 where
  pub lies : cell_at cells best.0 ≡ Some at
  pub expires : slot_expiry expiries best.0 ≡ Some best.1

-- each slot of the cell is met, so that P holds of it, or is still to come
pub record IsOnWay (cells : List (Option ℕ)) (at : ℕ) (next : ℕ → Option ℕ) (cursor : Option ℕ) (P : ℕ → Type 0) : Type 0 where
  pub comes : IfSome cursor (λ slot. cell_at cells slot ≡ Some at)
  pub each : (slot : ℕ) → cell_at cells slot ≡ Some at → P slot ⊎ Reaches next cursor slot

pub record IsLeastSoFar (cells expiries : List (Option ℕ)) (at : ℕ) (next : ℕ → Option ℕ) (cursor : Option ℕ) (best : Option (ℕ × ℕ)) : Type 0 where
  pub way : IsOnWay cells at next cursor (IsPassed expiries best)
  pub best_is : IfSome best (IsEntryOf cells expiries at)

module _ (heads : List (Option ℕ)) (nodes : List Node) (slots : Slots) (at : ℕ)
    (sound : AreSoundLists heads nodes) (view : slots_of nodes ≡ slots) where
  abbrev next : ℕ → Option ℕ
  next = next_in nodes

  pub way_begins : (P : ℕ → Type 0) (cursor : Option ℕ) → cursor ≡ head_at heads at → IsOnWay slots.cells at next cursor P
  way_begins P cursor is = record {
    comes = if_some cursor (λ slot. cell_at slots.cells slot ≡ Some at)
        (λ slot first. holds heads nodes slots sound view at slot (sym is ∙ first));
    each = λ slot lies.
        let met = met _ _ _ _ sound.linked.0 sound.linked.1 at slot (sym (cell_at-viewed nodes slots view slot) ∙ lies) in
        inr (subst (λ from. Reaches next from slot) (sym (is ∙ met.heads)) met.way);
  }

  not_reached : (slot : ℕ) → Reaches next None slot → ⊥
  not_reached slot way = elim way [ ]

  module _ (P : ℕ → Type 0) (cursor : Option ℕ) (way : IsOnWay slots.cells at next cursor P) where
    -- where no slot is still to come, P holds of each
    pub way_ends : cursor ≡ None → (slot : ℕ) → cell_at slots.cells slot ≡ Some at → P slot
    way_ends ended slot lies = ⊎_elim (λ met. met)
        (λ to_come. absurd (not_reached slot (subst (λ o. Reaches next o slot) ended to_come))) (way.each slot lies)

    module _ (slot : ℕ) (is : cursor ≡ Some slot) where
      pub lies_on_way : cell_at slots.cells slot ≡ Some at
      lies_on_way = subst (λ o. IfSome o (λ s. cell_at slots.cells s ≡ Some at)) is way.comes

      -- the slot has a node
      pub on_way_low : slot < length nodes
      on_way_low = in_room nodes slot at (sym (cell_at-viewed nodes slots view slot) ∙ lies_on_way)

      module _ (Q : ℕ → Type 0) (after : Option ℕ) (goes : after ≡ next slot) (met_here : Q slot) (still : (other : ℕ) → P other → Q other) where
        passes : (other : ℕ) → Reaches next (Some slot) other → Q other ⊎ Reaches next (next slot) other
        passes other here = inl met_here
        passes other (later on) = inr on

        pub way_goes : IsOnWay slots.cells at next after Q
        way_goes = record {
          comes = if_some after (λ s. cell_at slots.cells s ≡ Some at)
              (λ s follows. cell_at-viewed nodes slots view s ∙ sound.linked.1.next_cell slot s (sym goes ∙ follows)
              ∙ sym (cell_at-viewed nodes slots view slot) ∙ lies_on_way);
          each = λ other lies. ⊎_elim
              (λ met. inl (still other met))
              (λ to_come. ⊎_elim (λ met. inl met)
              (λ further. inr (subst (λ o. Reaches next o other) (sym goes) further))
              (passes other (subst (λ o. Reaches next o other) is to_come)))
              (way.each other lies);
        }

  pub so_far_none : (cursor : Option ℕ) → cursor ≡ head_at heads at → IsLeastSoFar slots.cells slots.expiries at next cursor None
  so_far_none cursor is = record { way = way_begins (IsPassed slots.expiries None) cursor is; best_is = tt }

  passed_again : (best : Option (ℕ × ℕ)) (now : ℕ × ℕ) (slot : ℕ) → IfSome best (λ b. now.1 ≤ b.1)
      → IsPassed slots.expiries best slot → IsPassed slots.expiries (Some now) slot
  passed_again None now slot no_worse passed = absurd passed
  passed_again (Some best) now slot no_worse passed =
      IfSome_then (slot_expiry slots.expiries slot) passed (λ expiry later. omega arith)

  best_among : (best : Option (ℕ × ℕ)) (now entry : ℕ × ℕ) → (now ≡ entry) ⊎ (best ≡ Some now)
      → IfSome best (IsEntryOf slots.cells slots.expiries at) → IsEntryOf slots.cells slots.expiries at entry → IsEntryOf slots.cells slots.expiries at now
  best_among best now entry either was is = ⊎_elim
      (λ same. subst (IsEntryOf slots.cells slots.expiries at) (sym same) is)
      (λ same. subst (λ b. IfSome b (IsEntryOf slots.cells slots.expiries at)) same was)
      either

  module _ (cursor : Option ℕ) (best : Option (ℕ × ℕ)) (slot expiry : ℕ) (now : ℕ × ℕ)
      (so_far : IsLeastSoFar slots.cells slots.expiries at next cursor best) (is : cursor ≡ Some slot)
      (expires : slot_expiry slots.expiries slot ≡ Some expiry) (no_later : now.1 ≤ expiry)
      (no_worse : IfSome best (λ b. now.1 ≤ b.1)) (either : (now ≡ (slot, expiry)) ⊎ (best ≡ Some now)) where
    pub so_far_more : (after : Option ℕ) → after ≡ next slot → IsLeastSoFar slots.cells slots.expiries at next after (Some now)
    so_far_more after goes = record {
      way = way_goes (IsPassed slots.expiries best) cursor so_far.way slot is (IsPassed slots.expiries (Some now)) after goes
          (subst (λ o. IfSome o (λ e. now.1 ≤ e)) (sym expires) no_later)
          (λ other passed. passed_again best now other no_worse passed);
      best_is = best_among best now (slot, expiry) either so_far.best_is
          (record { lies = lies_on_way (IsPassed slots.expiries best) cursor so_far.way slot is; expires = expires });
    }

  -- where no slot is still to come, the best is the cell's least
  pub least_found : (cursor : Option ℕ) (best : Option (ℕ × ℕ)) → cursor ≡ None → IsLeastSoFar slots.cells slots.expiries at next cursor best
      → MatchOption best (IsVacant slots.cells at) (λ entry. IsLeastIn slots.cells slots.expiries at entry.0 entry.1)
  least_found cursor None ended so_far = way_ends (IsPassed slots.expiries None) cursor so_far.way ended
  least_found cursor (Some best) ended so_far = record {
    lies = so_far.best_is.lies;
    expires = so_far.best_is.expires;
    least = way_ends (IsPassed slots.expiries (Some best)) cursor so_far.way ended;
  }

  -- fewer slots are left with each
  pub fewer_left : (cursor after : Option ℕ) (slot : ℕ) → slot < length nodes → cursor ≡ Some slot → after ≡ next slot
      → left next (length nodes) after < left next (length nodes) cursor
  fewer_left cursor after slot within is goes =
      subst (λ from. left next (length nodes) after < left next (length nodes) from) (sym is)
      (subst (λ from. left next (length nodes) from < left next (length nodes) (Some slot)) (sym goes)
      (left-next _ _ _ _ sound.linked.0 sound.linked.1 (length nodes) (in_room nodes) slot within))
