-- Which entry is first, and how the entries lie once the base has moved up.
use Rattle.std.proofs.Common.{◌≡◌, ℕ, ◌<◌, ◌≤◌, List, Option, Some, None, IsSome, IfSome, is_some, sym, ap, ◌∙◌, refl, subst, arith, ⊎_elim, ◌⊎◌, inl, inr}
use Rattle.std.specs.Prelude.{IsSomeAnd}
use Rattle.std.proofs.lemmas.Bool.{cases_lt}
use Rattle.std.proofs.lemmas.Option.{none-some, same_Some}
use Rattle.rb_wheel.specs.Cells.{IsCellOf, level_of}
use Rattle.rb_wheel.specs.Lists.{cell_at, slot_expiry, IsLeastIn}
use Rattle.rb_wheel.specs.Marks.{mark_at, IsFirstMarked}
use Rattle.rb_wheel.specs.Wheel.{LiesRight, LieRight, MaySpread, Waits, AreStillThere, Stand, IsFirst}
use Rattle.rb_wheel.specs.declared.marks.Marks.{Marks}
use Rattle.rb_timer.specs.Content.{Content}
use Rattle.rb_wheel.proofs.Order.{earlier_from_cells, lower_from_one, IsCellOf-next}
use Rattle.rb_wheel.proofs.Linked.{cases_option}
use Rattle.rb_wheel.specs.declared.cells.TheConstants.{DIGITS}

-- an entry that lies in a cell: its expiry is in that cell, and no earlier than the base
pub record IsEntryAt (base : ℕ) (expiry : Option ℕ) (cell : ℕ) : Type 0 where
  pub at : ℕ
  pub is : expiry ≡ Some at
  pub after : base ≤ at
  pub in_cell : IsCellOf base at cell

pub entry_at : (base : ℕ) (expiry cell : Option ℕ) (at : ℕ) → cell ≡ Some at → LiesRight base expiry cell → IsEntryAt base expiry at
entry_at base None cell at is lies = absurd (none-some at (sym lies ∙ is))
entry_at base (Some expiry) None at is lies = absurd (none-some at is)
entry_at base (Some expiry) (Some cell) at is lies = record {
  at = expiry;
  is = refl;
  after = lies.0;
  in_cell = subst (λ c. IsCellOf base expiry c) (same_Some cell at is) lies.1;
}

-- what lies in no cell still lies right under a later base
lies_later : (base next : ℕ) (expiry cell : Option ℕ) → base ≤ next → cell ≡ None → LiesRight base expiry cell → LiesRight next expiry cell
lies_later base next None cell up none lies = lies
lies_later base next (Some expiry) None up none lies = omega arith
lies_later base next (Some expiry) (Some cell) up none lies = absurd (none-some cell (sym none))

pub lies_in : (base : ℕ) (expiry cell : Option ℕ) (e at : ℕ) → expiry ≡ Some e → cell ≡ Some at → base ≤ e → IsCellOf base e at → LiesRight base expiry cell
lies_in base None cell e at is lies after in_cell = absurd (none-some e is)
lies_in base (Some expiry) None e at is lies after in_cell = absurd (none-some at lies)
lies_in base (Some expiry) (Some cell) e at is lies after in_cell =
    subst (λ x. LiesRight base (Some x) (Some cell)) (sym (same_Some expiry e is))
    (subst (λ c. LiesRight base (Some e) (Some c)) (sym (same_Some cell at lies)) (after, in_cell))

module _ (base : ℕ) (expiries cells : List (Option ℕ)) (right : LieRight base expiries cells) where
  entry : (slot at : ℕ) → cell_at cells slot ≡ Some at → IsEntryAt base (slot_expiry expiries slot) at
  entry slot at lies = entry_at base (slot_expiry expiries slot) (cell_at cells slot) at lies (right.each slot)

  -- the first waiting cell has the first entry
  module _ (waiting : Marks) (cell : ℕ) (first : IsFirstMarked waiting (Some cell)) (least_slot next : ℕ) (least : IsLeastIn cells expiries cell least_slot next) where
    own : (base ≤ next) × IsCellOf base next cell
    own =
        let it = entry least_slot cell least.lies in
        subst (λ x. (base ≤ x) × IsCellOf base x cell) (same_Some it.at next (sym it.is ∙ least.expires)) (it.after, it.in_cell)

    not_passed : (slot at : ℕ) (lies : cell_at cells slot ≡ Some at) → mark_at waiting at ≡ 1 → next ≤ (entry slot at lies).at
    not_passed slot at lies marked =
        let it = entry slot at lies in
        let low = first.1 at marked in
        ⊎_elim
        (λ later. let before = earlier_from_cells base next it.at cell at it.after own.1 it.in_cell later in omega arith)
        (λ not_later. let equal : at ≡ cell = omega arith in
        subst (λ o. IfSome o (λ another. next ≤ another)) it.is (least.least slot (lies ∙ ap Some equal)))
        (cases_lt cell at)

    no_earlier : (slot : ℕ) → Waits waiting (cell_at cells slot) → IfSome (slot_expiry expiries slot) (λ another. next ≤ another)
    no_earlier slot waits = cases_option (IfSome (slot_expiry expiries slot) (λ another. next ≤ another)) (cell_at cells slot)
        (λ none. absurd (subst (λ c. Waits waiting c) none waits))
        (λ at is. subst (λ o. IfSome o (λ another. next ≤ another)) (sym (entry slot at is).is)
        (not_passed slot at is (subst (λ c. Waits waiting c) is waits)))

    pub first_is : (early new_early : Content) → Stand expiries cells early waiting → AreStillThere expiries early new_early → IsFirst expiries new_early (Some (least_slot, next))
    first_is early new_early stand kept = record {
      expires = least.expires;
      others = λ slot. ⊎_elim (λ there. inl (kept slot there)) (λ waits. inr (no_earlier slot waits.1)) (stand.each slot);
    }

  -- the base moves up, and passes no entry that lies in a cell
  module _ (next cell : ℕ) (up : base ≤ next) (enters : IsCellOf base next cell)
      (least : (slot : ℕ) → IsSome (cell_at cells slot) → IfSome (slot_expiry expiries slot) (λ expiry. next ≤ expiry)) where
    not_before_next : (slot at : ℕ) (lies : cell_at cells slot ≡ Some at) → next ≤ (entry slot at lies).at
    not_before_next slot at lies = subst (λ o. IfSome o (λ expiry. next ≤ expiry)) (entry slot at lies).is (least slot (ap is_some lies))

    -- so it enters no cell behind one that holds a slot
    not_before : (slot at : ℕ) → cell_at cells slot ≡ Some at → cell ≤ at
    not_before slot at lies = ⊎_elim
        (λ behind.
        let it = entry slot at lies in
        let later = not_before_next slot at lies in
        absurd (let before = earlier_from_cells base it.at next at cell up it.in_cell enters behind in omega arith))
        (λ from. from)
        (cases_lt at cell)

    moved : (slot : ℕ) → ((at : ℕ) → cell_at cells slot ≡ Some at → (cell < at) ⊎ (level_of at ≡ 0))
        → LiesRight next (slot_expiry expiries slot) (cell_at cells slot)
    moved slot either = cases_option (LiesRight next (slot_expiry expiries slot) (cell_at cells slot)) (cell_at cells slot)
        (λ none. lies_later base next (slot_expiry expiries slot) (cell_at cells slot) up none (right.each slot))
        (λ at lies.
        let it = entry slot at lies in
        lies_in next (slot_expiry expiries slot) (cell_at cells slot) it.at at it.is lies (not_before_next slot at lies)
        (IsCellOf-next base next cell enters it.at at it.in_cell (not_before slot at lies) (either at lies)))

    -- where it enters a cell of the lowest level, or one that holds no slot, all lies right
    pub right_still : ((slot : ℕ) → cell_at cells slot ≡ Some cell → level_of cell ≡ 0) → LieRight next expiries cells
    right_still lowest = record {
      each = λ slot. moved slot
          (λ at lies. let from = not_before slot at lies in
          ⊎_elim (λ later. inl later)
          (λ not_later. let equal : at ≡ cell = omega arith in inr (ap level_of equal ∙ lowest slot (lies ∙ ap Some equal))) (cases_lt cell at));
    }

    -- otherwise the cell's entries are to be spread
    pub may_spread : DIGITS ≤ cell → MaySpread next cell expiries cells
    may_spread high = record {
      others = λ slot apart. moved slot
          (λ at lies. ⊎_elim (λ later. inl later)
          (λ not_later. absurd (apart (lies ∙ ap Some (let from = not_before slot at lies in omega arith)))) (cases_lt cell at));
      inside = λ slot lies.
          let it = entry slot cell lies in
          subst (λ o. IsSomeAnd o (λ expiry. (next ≤ expiry) × ((lower : ℕ) → IsCellOf next expiry lower → lower < cell))) (sym it.is)
          (not_before_next slot cell lies, λ lower. lower_from_one base next it.at cell enters it.in_cell lower (omega arith));
    }
