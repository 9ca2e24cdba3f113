-- A cell's number gives back its level and digit, which the highest different bit decides.
use Rattle.std.proofs.Common.{◌≡◌, ℕ, ◌+◌, ◌*◌, ◌/◌, ◌%◌, ap, ◌∙◌, refl, ◌<◌, arith}
use Rattle.rb_wheel.specs.Cells.{digit}
use Rattle.rb_wheel.proofs.HighestBit.{IsCellOf-from_bit, IsCellOf-from_none}
use Rattle.rb_wheel.proofs.cells.cell_of.Goals as goal
use Rattle.rb_wheel.proofs.cells.cell_of.Goals.{in-Some, in-None}
use Rattle.rb_wheel.specs.declared.cells.TheConstants.{DIGITS}

-- a level and a digit on it make a cell
of_parts : (level digit cell : ℕ) → digit < DIGITS → cell ≡ level * DIGITS + digit → (cell / DIGITS ≡ level) × (cell % DIGITS ≡ digit)
of_parts level digit cell small is = (omega arith, omega arith)

pub returns-clause-cell : goal.returns-clause-cell
returns-clause-cell c =
    let level = c.match-checked_ilog2.level in
    let parts = of_parts level (digit level c.args.expiry) (level * DIGITS + digit level c.args.expiry) (omega arith) refl in
    elim c.match-checked_ilog2.branch [
      | in-Some w ↦ IsCellOf-from_bit c.args.base c.args.expiry w.in-Some.highest_bit
          w.in-Some.ensures.power_le w.in-Some.ensures.next_power_gt _
          (parts.0 ∙ w.level-is) (parts.1 ∙ ap (λ l. digit l c.args.expiry) w.level-is)
      | in-None w ↦ IsCellOf-from_none c.args.base c.args.expiry _ w.in-None.ensures.none
          (parts.0 ∙ w.level-is) (parts.1 ∙ ap (λ l. digit l c.args.expiry) w.level-is)
    ]
