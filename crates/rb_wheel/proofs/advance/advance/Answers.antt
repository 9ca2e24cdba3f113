-- The base passes no entry, so it enters the first cell that holds a slot, or a cell before it.
use Rattle.std.proofs.Common.{◌≡◌, ◌≤◌, ℕ, List, Option, Some, None, IsSome, IfSome, MatchOption, is_some, false, sym, ◌∙◌, arith}
use Rattle.std.proofs.lemmas.Option.{IfSome_then}
use Rattle.rb_wheel.specs.Lists.{cell_at, slot_expiry, IsVacant}
use Rattle.rb_wheel.proofs.Moves.{may_spread, right_still}
use Rattle.rb_wheel.proofs.advance.advance.Goals as goal
use Rattle.rb_wheel.proofs.advance.advance.Goals.{After-cell_of-cell, else-cell-ge-DIGITS-via-then-cell-ge-DIGITS+else-is_some, else-cell-ge-DIGITS-via-else-cell-ge-DIGITS}

-- a cell of which no slot is given holds none
vacant_where : (cells : List (Option ℕ)) (cell : ℕ) (o : Option ℕ) → MatchOption o (IsVacant cells cell) (λ slot. cell_at cells slot ≡ Some cell)
    → is_some o ≡ false → IsVacant cells cell
vacant_where cells cell None vacant none = vacant
vacant_where cells cell (Some slot) held none = absurd (cc)

-- no entry expires before the moment
not_passed : (c : After-cell_of-cell) → (slot : ℕ) → IsSome (cell_at c.args.lists.now.cells slot)
    → IfSome (slot_expiry c.args.lists.now.expiries slot) (λ expiry. c.min-next.result ≤ expiry)
not_passed c slot lies =
    IfSome_then (slot_expiry c.args.lists.now.expiries slot) (c.requires.least slot lies)
    (λ expiry low. let is = c.min-next.ensures in omega arith)

pub spread-requires-clause-may : goal.spread-requires-clause-may
spread-requires-clause-may c =
    may_spread c.args.base.now c.args.lists.now.expiries c.args.lists.now.cells c.requires.right c.min-next.result c.cell_of-cell.result
    (omega arith) c.cell_of-cell.ensures.cell (not_passed (goal.at.spread-requires-clause-may c).After-cell_of-cell) c.if-cell-ge-DIGITS.true

pub returns-else-cell-ge-DIGITS-clause-right : goal.returns-else-cell-ge-DIGITS-clause-right
returns-else-cell-ge-DIGITS-clause-right c =
    right_still c.args.base.now c.args.lists.now.expiries c.args.lists.now.cells c.requires.right c.min-next.result c.cell_of-cell.result
    (omega arith) c.cell_of-cell.ensures.cell (not_passed (goal.at.returns-else-cell-ge-DIGITS-clause-right c).After-cell_of-cell)
    (elim c.else-cell-ge-DIGITS.branch [
      | else-cell-ge-DIGITS-via-then-cell-ge-DIGITS+else-is_some w ↦ λ slot lies.
          absurd (vacant_where c.args.lists.now.cells c.cell_of-cell.result w.first_in.result w.first_in.ensures (sym w.is_some.ensures ∙ w.if-is_some.false) slot lies)
      | else-cell-ge-DIGITS-via-else-cell-ge-DIGITS w ↦ λ slot lies. let low = w.if-cell-ge-DIGITS.false in omega arith
    ])
