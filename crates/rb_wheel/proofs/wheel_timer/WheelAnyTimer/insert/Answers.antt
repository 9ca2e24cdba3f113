-- The entry goes into the early timer, into its cell, or into both.
use Rattle.std.proofs.Common.{◌≡◌, ◌<◌, ◌∙◌, ℕ, List, Option, Some, None, length, set, sym, ap, subst, arith, length-set}
use Rattle.std.specs.FinMap as map
use Rattle.rb_timer.specs.Slots.{content_of, get-content_of, content_of-insert}
use Rattle.rb_wheel.specs.Lists.{Slots, slot_expiry}
use Rattle.rb_wheel.proofs.Entries.{fewer, free, not_early, insert_early, insert_copied, insert_waiting}
use Rattle.rb_wheel.proofs.wheel_timer.WheelAnyTimer.insert.Goals as goal

-- a slot with no entry has no expiry
absent_in : (expiries value : List (Option ℕ)) (slot : ℕ) → expiries ≡ value → map.get (content_of value) slot ≡ None → slot_expiry expiries slot ≡ None
absent_in expiries value slot same absent = ap (λ es. slot_expiry es slot) same ∙ sym (get-content_of value slot) ∙ absent

-- such a slot of the room is one of the wheel's
within : (expiries value : List (Option ℕ)) (slot : ℕ) → expiries ≡ value → slot < length value → slot < length expiries
within expiries value slot same low = subst (λ (es : List (Option ℕ)). slot < length es) (sym same) low

pub overflow_add-self : goal.overflow_add-self
overflow_add-self g c =
    let wheel = c.self.inside in
    let few = fewer wheel.lists.expiries wheel.lists.cells _ _ wheel.waiting wheel.base wheel.len _ c.self.invariant c.args.slot
    (within wheel.lists.expiries c.args.self.now c.args.slot c.self.view_is c.requires.in_room)
    (absent_in wheel.lists.expiries c.args.self.now c.args.slot c.self.view_is c.requires.absent) in
    let long = ap (λ (slots : Slots). length slots.expiries) c.occupy.ensures.noted ∙ length-set wheel.lists.expiries c.args.slot (Some c.args.expiry) in
    let countable = c.occupy.ensures.countable in
    omega arith

pub insert-requires-clause-absent : goal.insert-requires-clause-absent
insert-requires-clause-absent g c =
    let wheel = c.self.inside in
    not_early wheel.lists.expiries wheel.lists.cells _ _ wheel.waiting wheel.base wheel.len _ c.self.invariant c.args.slot
    (within wheel.lists.expiries c.args.self.now c.args.slot c.self.view_is c.requires.in_room)
    (absent_in wheel.lists.expiries c.args.self.now c.args.slot c.self.view_is c.requires.absent)

pub invariant_of-self : goal.invariant_of-self
invariant_of-self g c =
    let wheel = c.self.inside in
    rw c.occupy.ensures.noted (insert_early wheel.lists.expiries wheel.lists.cells _ _ wheel.waiting wheel.base wheel.len _ c.self.invariant c.args.slot
    (within wheel.lists.expiries c.args.self.now c.args.slot c.self.view_is c.requires.in_room)
    (absent_in wheel.lists.expiries c.args.self.now c.args.slot c.self.view_is c.requires.absent)
    c.args.expiry _ _ (omega arith) c.if-expiry-self.true c.insert.ensures.content c.insert.ensures.room)

pub insert-requires-2-clause-free : goal.insert-requires-2-clause-free
insert-requires-2-clause-free g c =
    let wheel = c.self.inside in
    rw c.occupy.ensures.noted (free wheel.lists.expiries wheel.lists.cells _ _ wheel.waiting wheel.base wheel.len _ c.self.invariant c.args.slot
    (within wheel.lists.expiries c.args.self.now c.args.slot c.self.view_is c.requires.in_room)
    (absent_in wheel.lists.expiries c.args.self.now c.args.slot c.self.view_is c.requires.absent))

pub invariant_of-self-then-waits : goal.invariant_of-self-then-waits
invariant_of-self-then-waits g c =
    let wheel = c.self.inside in
    rw (c.insert-2.ensures, c.occupy.ensures.noted) (insert_waiting wheel.lists.expiries wheel.lists.cells _ _ wheel.waiting wheel.base wheel.len _ c.self.invariant c.args.slot
    (within wheel.lists.expiries c.args.self.now c.args.slot c.self.view_is c.requires.in_room)
    (absent_in wheel.lists.expiries c.args.self.now c.args.slot c.self.view_is c.requires.absent)
    c.args.expiry c.cell_of-cell.result (omega arith) c.if-expiry-self.false c.cell_of-cell.ensures.cell
    c.insert-then-waits.new.self c.earlier_of.result c.insert-then-waits.ensures.here c.insert-then-waits.ensures.elsewhere
    c.earlier_of.ensures.no_later c.earlier_of.ensures.no_worse c.earlier_of.ensures.either)

pub insert-requires-else-waits-clause-absent : goal.insert-requires-else-waits-clause-absent
insert-requires-else-waits-clause-absent g c =
    let wheel = c.self.inside in
    not_early wheel.lists.expiries wheel.lists.cells _ _ wheel.waiting wheel.base wheel.len _ c.self.invariant c.args.slot
    (within wheel.lists.expiries c.args.self.now c.args.slot c.self.view_is c.requires.in_room)
    (absent_in wheel.lists.expiries c.args.self.now c.args.slot c.self.view_is c.requires.absent)

pub invariant_of-self-else-waits : goal.invariant_of-self-else-waits
invariant_of-self-else-waits g c =
    let wheel = c.self.inside in
    rw (c.insert-2.ensures, c.occupy.ensures.noted) (insert_copied wheel.lists.expiries wheel.lists.cells _ _ wheel.waiting wheel.base wheel.len _ c.self.invariant c.args.slot
    (within wheel.lists.expiries c.args.self.now c.args.slot c.self.view_is c.requires.in_room)
    (absent_in wheel.lists.expiries c.args.self.now c.args.slot c.self.view_is c.requires.absent)
    c.args.expiry c.cell_of-cell.result (omega arith) c.if-expiry-self.false c.cell_of-cell.ensures.cell
    _ _ c.insert-else-waits.ensures.content c.insert-else-waits.ensures.room)

-- the content has the entry
added : (expiries value : List (Option ℕ)) (slot expiry : ℕ) → expiries ≡ value → slot < length value
    → content_of (set expiries slot (Some expiry)) ≡ map.insert (content_of value) slot expiry
added expiries value slot expiry same low =
    ap (λ es. content_of (set es slot (Some expiry))) same ∙ content_of-insert value slot expiry low

pub returns-then-expiry-self-clause-content : goal.returns-then-expiry-self-clause-content
returns-then-expiry-self-clause-content g c =
    rw c.occupy.ensures.noted (added c.self.inside.lists.expiries c.args.self.now c.args.slot c.args.expiry c.self.view_is c.requires.in_room)

pub returns-then-waits-clause-content : goal.returns-then-waits-clause-content
returns-then-waits-clause-content g c =
    rw (c.insert-2.ensures, c.occupy.ensures.noted) (added c.self.inside.lists.expiries c.args.self.now c.args.slot c.args.expiry c.self.view_is c.requires.in_room)

pub returns-else-waits-clause-content : goal.returns-else-waits-clause-content
returns-else-waits-clause-content g c =
    rw (c.insert-2.ensures, c.occupy.ensures.noted) (added c.self.inside.lists.expiries c.args.self.now c.args.slot c.args.expiry c.self.view_is c.requires.in_room)
