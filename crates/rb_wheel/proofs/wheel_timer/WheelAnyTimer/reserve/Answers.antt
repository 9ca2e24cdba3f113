-- The rows stay, with empty slots behind them, and there is room for these among the early ones.
use Rattle.std.proofs.Common.{◌≡◌, ◌+◌, ◌-◌, ◌++◌, ℕ, List, Option, None, length, replicate, ap, ◌∙◌, arith, length-append}
use Rattle.std.proofs.lemmas.List.{length-replicate}
use Rattle.rb_timer.specs.Slots.{content_of, content_of-more}
use Rattle.rb_wheel.specs.Lists.{cell_at}
use Rattle.rb_wheel.proofs.Entries.{IsWheel-reserved}
use Rattle.rb_wheel.proofs.Rooms.{get_or-padded}
use Rattle.rb_wheel.proofs.wheel_timer.WheelAnyTimer.reserve.Goals as goal

-- a row, with empty slots behind it
module _ (row new_row : List (Option ℕ)) (more : ℕ) (is : new_row ≡ row ++ replicate more None) where
  same_at : (slot : ℕ) → cell_at new_row slot ≡ cell_at row slot
  same_at slot = ap (λ r. cell_at r slot) is ∙ get_or-padded row more slot None

  long : length new_row ≡ length row + more
  long = ap length is ∙ length-append row (replicate more None) ∙ ap (λ n. length row + n) (length-replicate more None)

pub invariant_of-self-in-Continue-branch-2 : goal.invariant_of-self-in-Continue-branch-2
invariant_of-self-in-Continue-branch-2 g c =
    let wheel = c.self.inside in
    let old = wheel.lists in
    let new = c.reserve-then-wanted-room.new.self in
    let more_expiries = c.args.wanted - length old.expiries in
    let more_cells = c.args.wanted - length old.cells in
    let expiries = c.in_ok-reserve-2.ensures.expiries in
    let cells = c.in_ok-reserve-2.ensures.cells in
    let expiries_long = long old.expiries new.expiries more_expiries expiries in
    let cells_long = long old.cells new.cells more_cells cells in
    let room = c.in_ok-reserve.ensures.ok in
    let fits = c.self.invariant.in_lists in
    IsWheel-reserved old.expiries new.expiries old.cells new.cells _ _ _ _ wheel.waiting wheel.base wheel.len _
    (same_at old.expiries new.expiries more_expiries expiries) (same_at old.cells new.cells more_cells cells)
    c.in_ok-reserve.ensures.content (omega arith) (omega arith) c.self.invariant

pub returns-in_ok-reserve-2-clause-content : goal.returns-in_ok-reserve-2-clause-content
returns-in_ok-reserve-2-clause-content g c =
    let expiries = c.self.inside.lists.expiries in
    ap content_of c.in_ok-reserve-2.ensures.expiries
    ∙ content_of-more expiries (c.args.wanted - length expiries) ∙ ap content_of c.self.view_is
