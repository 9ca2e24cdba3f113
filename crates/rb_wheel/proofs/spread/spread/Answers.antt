-- The first slot of what is left is put into a lower cell, so that its own has one less.
use Rattle.std.proofs.Common.{◌≡◌, ◌≢◌, ◌<◌, ℕ, List, length, set, Option, Some, None, sym, ap, ◌∙◌, refl, subst, arith, length-set}
use Rattle.std.proofs.lemmas.List.{get_or_read}
use Rattle.rb_wheel.specs.declared.node.Node.{Node}
use Rattle.rb_wheel.specs.Lists.{cell_at, slot_expiry}
use Rattle.rb_wheel.specs.Nodes.{vacant, node_at, expiry_of}
use Rattle.rb_wheel.specs.Wheel.{LieRight, MaySpread, StillWait}
use Rattle.rb_wheel.specs.WheelLinks.{head_at, cells_of, expiries_of, slots_of, with_put, AreSoundLists}
use Rattle.rb_wheel.proofs.HeldCells.{vacant as none_there}
use Rattle.rb_wheel.proofs.Spreads.{count_in, before, may_still, waits_still, one_less, all_right}
use Rattle.rb_wheel.proofs.TakenOff.{IsTakenOff, taken_off, put_away, lies_in, slot_low, all_cells, second_low, put_on}
use Rattle.rb_wheel.proofs.Viewed.{cell_at-viewed, expiry_at-viewed}
use Rattle.rb_wheel.proofs.WrittenLinks.{cells_of-with_put, expiries_of-with_put}
use Rattle.rb_wheel.proofs.spread.spread.Goals as goal
use Rattle.rb_wheel.proofs.spread.spread.Goals.{In-Some, In_default, After-cell_of-lower, After-put_first}

pub loop-rest-init : goal.loop-rest-init
loop-rest-init c =
    let heads = c.args.heads.now in
    let cell = c.args.cell in
    let nodes = c.args.nodes.now in
    let head_is = get_or_read heads cell c.index-heads-cell.result c.requires.in_heads c.index-heads-cell.is None in
    let rest_is : c.take-rest.result ≡ head_at heads cell = c.take-rest.ensures.value ∙ sym c.index-heads-cell.is ∙ head_is in
    let off = taken_off heads nodes cell c.requires.sound c.requires.in_heads in
    record {
      off = subst (λ (o : Option ℕ). IsTakenOff cell c.take-rest.result (set heads cell o) nodes) (sym c.take-rest.ensures.after)
          (subst (λ rest. IsTakenOff cell rest (set heads cell None) nodes) (sym rest_is) off);
      low = let long = length-set heads cell c.take-rest.new.self in let within = c.requires.in_heads in omega arith;
      expiries = refl;
      may = c.requires.may;
      room = refl;
      waits = λ slot waits. waits;
    }

-- the slot is the first of what is left of the list, so that it is in the room
low : (c : In-Some) → c.in-Some.slot < length c.loop-rest.nodes
low c = slot_low c.args.cell c.in-Some.slot 0 c.loop-rest.heads c.loop-rest.nodes
    (subst (λ rest. IsTakenOff c.args.cell rest c.loop-rest.heads c.loop-rest.nodes) c.in-Some.is c.loop-rest.invariant.off)
    c.loop-rest.invariant.low

pub offset_bounds-nodes-slot : goal.offset_bounds-nodes-slot
offset_bounds-nodes-slot c =
    let within : c.in-Some.slot < length c.loop-rest.nodes = low (goal.at.offset_bounds-nodes-slot c).In-Some in
    omega arith

pub bounds-nodes-slot : goal.bounds-nodes-slot
bounds-nodes-slot c = low (goal.at.bounds-nodes-slot c).In-Some

module _ (c : After-cell_of-lower) where
  abbrev cell : ℕ
  cell = c.args.cell

  abbrev slot : ℕ
  slot = c.in-Some.slot

  abbrev heads : List (Option ℕ)
  heads = c.loop-rest.heads

  abbrev nodes : List Node
  nodes = c.loop-rest.nodes

  off : IsTakenOff cell (Some slot) heads nodes
  off = subst (λ rest. IsTakenOff cell rest heads nodes) c.in-Some.is c.loop-rest.invariant.off

  in_room : slot < length nodes
  in_room = slot_low cell slot 0 heads nodes off c.loop-rest.invariant.low

  node_is : c.index-nodes-slot.result ≡ node_at nodes slot
  node_is = get_or_read nodes slot c.index-nodes-slot.result in_room c.index-nodes-slot.is vacant

  lies : cell_at (cells_of nodes) slot ≡ Some cell
  lies = cell_at-viewed nodes (slots_of nodes) refl slot ∙ lies_in cell slot 0 heads nodes off c.loop-rest.invariant.low

  expires : slot_expiry (expiries_of nodes) slot ≡ expiry_of c.index-nodes-slot.result
  expires = expiry_at-viewed nodes (slots_of nodes) refl slot ∙ sym (ap expiry_of node_is)

  is_before : c.cell_of-lower.result < cell
  is_before = before c.args.base cell (expiries_of nodes) (cells_of nodes) c.loop-rest.invariant.may slot c.index-nodes-slot.result lies expires
      c.cell_of-lower.result c.cell_of-lower.ensures.cell

  apart : c.cell_of-lower.result ≢ cell
  apart same = let low = is_before in omega arith

  has_head : c.cell_of-lower.result < length heads
  has_head =
      let all = all_cells cell slot 0 heads nodes off c.loop-rest.invariant.low in
      let low = c.cell_of-lower.ensures.in_wheel in omega arith

pub put_first-requires-clause-in_heads : goal.put_first-requires-clause-in_heads
put_first-requires-clause-in_heads c = has_head (goal.at.put_first-requires-clause-in_heads c).After-cell_of-lower

pub put_first-requires-clause-in_room : goal.put_first-requires-clause-in_room
put_first-requires-clause-in_room c = in_room (goal.at.put_first-requires-clause-in_room c).After-cell_of-lower

pub put_first-requires-clause-first_in_room : goal.put_first-requires-clause-first_in_room
put_first-requires-clause-first_in_room c =
    let now = (goal.at.put_first-requires-clause-first_in_room c).After-cell_of-lower in
    second_low c.args.cell c.in-Some.slot c.cell_of-lower.result c.loop-rest.heads c.loop-rest.nodes (off now) c.loop-rest.invariant.low (apart now)

-- the cells once the slot is put
cells_are : (c : After-put_first) → cells_of c.put_first.new.nodes ≡ set (cells_of c.loop-rest.nodes) c.in-Some.slot (Some c.cell_of-lower.result)
cells_are c = ap cells_of c.put_first.ensures.nodes ∙ cells_of-with_put c.loop-rest.heads c.loop-rest.nodes c.cell_of-lower.result c.in-Some.slot

expiries_are : (c : After-put_first) → expiries_of c.put_first.new.nodes ≡ expiries_of c.loop-rest.nodes
expiries_are c = ap expiries_of c.put_first.ensures.nodes ∙ expiries_of-with_put c.loop-rest.heads c.loop-rest.nodes c.cell_of-lower.result c.in-Some.slot

pub loop-rest-smaller : goal.loop-rest-smaller
loop-rest-smaller c =
    let now = (goal.at.loop-rest-smaller c).After-cell_of-lower in
    subst (λ cells. count_in c.args.cell cells < count_in c.args.cell (cells_of c.loop-rest.nodes)) (sym (cells_are (goal.at.loop-rest-smaller c).After-put_first))
    (one_less c.args.base c.args.cell (expiries_of c.loop-rest.nodes) (cells_of c.loop-rest.nodes) c.loop-rest.invariant.may
    c.in-Some.slot c.index-nodes-slot.result (lies now) (expires now) c.cell_of-lower.result c.cell_of-lower.ensures.cell)

pub loop-rest-preserved : goal.loop-rest-preserved
loop-rest-preserved c =
    let now = (goal.at.loop-rest-preserved c).After-cell_of-lower in
    let put = (goal.at.loop-rest-preserved c).After-put_first in
    let base = c.args.base in
    let cell = c.args.cell in
    let slot = c.in-Some.slot in
    let lower = c.cell_of-lower.result in
    let heads : List (Option ℕ) = c.loop-rest.heads in
    let nodes : List Node = c.loop-rest.nodes in
    let node = c.index-nodes-slot.result in
    let rest_is : c.as_option-rest.result ≡ (node_at nodes slot).next = c.as_option-rest.ensures ∙ ap (λ (n : Node). n.next) (node_is now) in
    let off = put_on cell slot lower heads nodes (off now) c.loop-rest.invariant.low (apart now) (has_head now) in
    let may = may_still base cell (expiries_of nodes) (cells_of nodes) c.loop-rest.invariant.may slot node (lies now) (expires now) lower c.cell_of-lower.ensures.cell in
    let waits = waits_still base cell (expiries_of nodes) (cells_of nodes) c.loop-rest.invariant.may slot node (lies now) (expires now) lower c.cell_of-lower.ensures.cell
    (cells_of c.args.nodes.now) c.args.waiting.now c.loop-rest.waiting c.insert.new.self c.insert.ensures.here c.insert.ensures.elsewhere c.loop-rest.invariant.waits in
    record {
      off = subst (λ (rest : Option ℕ). IsTakenOff cell rest c.put_first.new.heads c.put_first.new.nodes) (sym rest_is)
          (subst (λ (ns : List Node). IsTakenOff cell (node_at nodes slot).next c.put_first.new.heads ns) (sym c.put_first.ensures.nodes)
          (subst (λ (hs : List (Option ℕ)). IsTakenOff cell (node_at nodes slot).next hs (with_put heads nodes lower slot)) (sym c.put_first.ensures.heads) off));
      low = let long = length-set heads lower (Some slot) in let heads_long = ap length c.put_first.ensures.heads in let was = c.loop-rest.invariant.low in omega arith;
      expiries = expiries_are put ∙ c.loop-rest.invariant.expiries;
      may = subst (λ es. MaySpread base cell es (cells_of c.put_first.new.nodes)) (sym (expiries_are put))
          (subst (λ cs. MaySpread base cell (expiries_of nodes) cs) (sym (cells_are put)) may);
      room = ap length (cells_are put) ∙ length-set (cells_of nodes) slot (Some lower) ∙ c.loop-rest.invariant.room;
      waits = subst (λ cs. StillWait c.args.waiting.now (cells_of c.args.nodes.now) c.insert.new.self cs) (sym (cells_are put)) waits;
    }

-- nothing is left
ended : (c : In_default) → AreSoundLists c.loop-rest.heads c.loop-rest.nodes
ended c = put_away c.loop-rest.heads c.loop-rest.nodes c.args.cell c.loop-rest.invariant.low
    (subst (λ rest. IsTakenOff c.args.cell rest c.loop-rest.heads c.loop-rest.nodes) c.in_default.is c.loop-rest.invariant.off)

pub returns-clause-sound : goal.returns-clause-sound
returns-clause-sound c = ended (goal.at.returns-clause-sound c).In_default

pub returns-clause-right : goal.returns-clause-right
returns-clause-right c =
    let heads : List (Option ℕ) = c.loop-rest.heads in
    let nodes : List Node = c.loop-rest.nodes in
    let sound = ended (goal.at.returns-clause-right c).In_default in
    subst (λ es. LieRight c.args.base es (cells_of nodes)) c.loop-rest.invariant.expiries
    (all_right c.args.base c.args.cell (expiries_of nodes) (cells_of nodes) c.loop-rest.invariant.may
    (none_there heads nodes (slots_of nodes) sound refl c.args.cell c.loop-rest.invariant.off.none))
