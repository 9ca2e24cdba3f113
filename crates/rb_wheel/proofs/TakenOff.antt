-- A list that was taken off its cell: the rest of it, of which each slot is put first in another cell.
use Rattle.std.proofs.Common.{◌≡◌, ℕ, ◌<◌, ◌≤◌, ◌≢◌, List, length, set, Option, Some, None, IfSome, sym, ap, ◌∙◌, refl, arith, ⊎_elim, get_or-set_same, get_or-set_other, length-set}
use Rattle.std.proofs.lemmas.Bool.{cases_eq}
use Rattle.std.proofs.lemmas.Option.{none-some, same_Some}
use Rattle.rb_wheel.specs.declared.node.Node.{Node}
use Rattle.rb_wheel.specs.declared.cells.TheConstants.{CELLS}
use Rattle.rb_wheel.specs.Nodes.{node_at, with_previous, with_first}
use Rattle.rb_wheel.specs.WheelLinks.{head_at, with_put, cell_in, next_in, previous_in, AreLinked, AreSoundLists}
use Rattle.rb_wheel.proofs.Linked.{TakesOut, PutsFirst, LinksAgree-put, rank_below, cases_some}
use Rattle.rb_wheel.proofs.Removals.{without, takes, AreLinked-remove}
use Rattle.rb_wheel.proofs.Rooms.{AreLinked-same}
use Rattle.rb_wheel.proofs.Viewed.{if_some}
use Rattle.rb_wheel.proofs.WrittenLinks.{in_room, with_previous_here, with_previous_other, with_previous_shown, with_put_here, with_put_other, length-with_put}

-- a list was taken off a cell, and this is the first slot of what is left of it: the lists are linked
-- if that cell begins with this slot and nothing precedes it, as the code need not write
pub record IsTakenOff (cell : ℕ) (rest : Option ℕ) (heads : List (Option ℕ)) (nodes : List Node) : Type 0 where
  pub linked : (rank : ℕ → ℕ) × AreLinked (set heads cell rest) (with_previous nodes rest None) rank
  pub none : head_at heads cell ≡ None
  pub few_heads : length heads ≤ CELLS
  pub all_heads : 0 < length nodes → CELLS ≤ length heads

-- the head of a cell, where that of another was set, or its own
module _ (heads : List (Option ℕ)) (cell : ℕ) (first : Option ℕ) where
  set_head : cell < length heads → head_at (set heads cell first) cell ≡ first
  set_head low = get_or-set_same heads cell first None low

  other_head : (at : ℕ) → at ≢ cell → head_at (set heads cell first) at ≡ head_at heads at
  other_head at apart = get_or-set_other heads cell at first None apart

  -- a head that is set to what it is
  same_heads : head_at heads cell ≡ first → cell < length heads → (at : ℕ) → head_at (set heads cell first) at ≡ head_at heads at
  same_heads is low at = ⊎_elim
      (λ same. ap (head_at (set heads cell first)) same ∙ set_head low ∙ sym is ∙ ap (head_at heads) (sym same))
      (other_head at)
      (cases_eq at cell)

same_node : (node : Node) → node.previous ≡ None → record node { previous = None } ≡ node
same_node node is = λ i. record node { previous = sym is i }

-- the list of a cell is taken off
module _ (heads : List (Option ℕ)) (nodes : List Node) (cell : ℕ)
    (sound : AreSoundLists heads nodes) (low : cell < length heads) where
  abbrev head : Option ℕ
  head = head_at heads cell

  low_still : cell < length (set heads cell None)
  low_still = let long = length-set {A = Option ℕ} heads cell None in omega arith

  heads_back : (at : ℕ) → head_at (set (set heads cell None) cell head) at ≡ head_at heads at
  heads_back at = ⊎_elim
      (λ same. ap (head_at (set (set heads cell None) cell head)) same ∙ set_head (set heads cell None) cell head low_still
      ∙ ap (head_at heads) (sym same))
      (λ apart. other_head (set heads cell None) cell head at apart ∙ other_head heads cell None at apart)
      (cases_eq at cell)

  nodes_back : (slot : ℕ) → node_at (with_previous nodes head None) slot ≡ node_at nodes slot
  nodes_back slot = ⊎_elim
      (λ is. with_previous_here nodes None head slot is (in_room nodes slot cell (sound.linked.1.head_cell cell slot is))
      ∙ same_node (node_at nodes slot) (sound.linked.1.head_first cell slot is))
      (with_previous_other nodes None head slot)
      (cases_some head slot)

  pub taken_off : IsTakenOff cell head (set heads cell None) nodes
  taken_off =
      let long = length-set {A = Option ℕ} heads cell None in
      let few = sound.few_heads in
      let all = sound.all_heads in
      record {
        linked = (sound.linked.0, AreLinked-same heads _ nodes _ sound.linked.0 heads_back nodes_back sound.linked.1);
        none = set_head heads cell None low;
        few_heads = omega arith;
        all_heads = λ some. let enough = all some in omega arith;
      }

-- with nothing left of it the lists are sound
pub put_away : (heads : List (Option ℕ)) (nodes : List Node) (cell : ℕ) → cell < length heads
    → IsTakenOff cell None heads nodes → AreSoundLists heads nodes
put_away heads nodes cell low off = record {
  linked = (
    off.linked.0,
    AreLinked-same (set heads cell None) heads nodes nodes off.linked.0
        (λ at. sym (same_heads heads cell None off.none low at)) (λ slot. refl) off.linked.1,
  );
  few_heads = off.few_heads;
  all_heads = off.all_heads;
}

-- its first slot is put first in another cell
module _ (cell slot lower : ℕ) (heads : List (Option ℕ)) (nodes : List Node)
    (off : IsTakenOff cell (Some slot) heads nodes) (low : cell < length heads) where
  -- the lists as they are linked
  abbrev heads_with : List (Option ℕ)
  heads_with = set heads cell (Some slot)

  abbrev nodes_with : List Node
  nodes_with = with_previous nodes (Some slot) None

  abbrev rank : ℕ → ℕ
  rank = off.linked.0

  first_here : head_at heads_with cell ≡ Some slot
  first_here = set_head heads cell (Some slot) low

  -- a note of what precedes leaves each cell, and what follows
  same_cell : (s : ℕ) → cell_in nodes_with s ≡ cell_in nodes s
  same_cell = with_previous_shown nodes None (λ l. l.cell) (λ node previous. refl) (Some slot)

  same_next : (s : ℕ) → next_in nodes_with s ≡ next_in nodes s
  same_next = with_previous_shown nodes None (λ l. l.next) (λ node previous. refl) (Some slot)

  same_previous : (s : ℕ) → s ≢ slot → previous_in nodes_with s ≡ previous_in nodes s
  same_previous s apart =
      ap (λ (l : Node). l.previous) (with_previous_other nodes None (Some slot) s (λ is. apart (sym (same_Some slot s is))))

  in_cell : cell_in nodes_with slot ≡ Some cell
  in_cell = off.linked.1.head_cell cell slot first_here

  pub lies_in : cell_in nodes slot ≡ Some cell
  lies_in = sym (same_cell slot) ∙ in_cell

  pub slot_low : slot < length nodes
  slot_low = in_room nodes slot cell lies_in

  first : previous_in nodes_with slot ≡ None
  first = off.linked.1.head_first cell slot first_here

  low_with : cell < length heads_with
  low_with = let long = length-set heads cell (Some slot) in omega arith

  pub all_cells : CELLS ≤ length heads
  all_cells = let some = slot_low in off.all_heads (omega arith)

  module _ (apart : lower ≢ cell) where
    -- what is first in the other cell is a slot
    pub second_low : IfSome (head_at heads lower) (λ second. second < length nodes)
    second_low = if_some (head_at heads lower) (λ second. second < length nodes)
        (λ second is. in_room nodes second lower
        (sym (same_cell second) ∙ off.linked.1.head_cell lower second (other_head heads cell (Some slot) lower apart ∙ is)))

    module _ (lower_low : lower < length heads) where
      abbrev rest : Option ℕ
      rest = next_in nodes slot

      -- the lists without the slot
      abbrev heads_left : List (Option ℕ)
      heads_left = with_first heads_with cell (previous_in nodes_with slot) (next_in nodes_with slot)

      abbrev nodes_left : List Node
      nodes_left = without nodes_with slot

      taken : TakesOut (head_at heads_with) (cell_in nodes_with) (next_in nodes_with) (previous_in nodes_with)
          (head_at heads_left) (cell_in nodes_left) (next_in nodes_left) (previous_in nodes_left) cell slot
      taken = takes heads_with nodes_with cell slot rank off.linked.1 low_with in_cell

      left_linked : AreLinked heads_left nodes_left rank
      left_linked = AreLinked-remove heads_with nodes_with cell slot rank off.linked.1 low_with in_cell

      -- and as they are linked with it in the other cell
      abbrev heads_put : List (Option ℕ)
      heads_put = set heads lower (Some slot)

      abbrev nodes_put : List Node
      nodes_put = with_put heads nodes lower slot

      abbrev heads_now : List (Option ℕ)
      heads_now = set heads_put cell rest

      abbrev nodes_now : List Node
      nodes_now = with_previous nodes_put rest None

      low_put : cell < length heads_put
      low_put = let long = length-set heads lower (Some slot) in omega arith

      not_before : (s : ℕ) → previous_in nodes_with slot ≢ Some s
      not_before s is = none-some s (sym first ∙ is)

      -- what shows no neighbour before is as before, at another slot
      stays : {X : Type 0} (shown : Node → X) → ((node : Node) (previous : Option ℕ) → shown (record node { previous = previous }) ≡ shown node)
          → (s : ℕ) → s ≢ slot → shown (node_at nodes_now s) ≡ shown (node_at nodes s)
      stays shown same s other =
          with_previous_shown nodes_put None shown same rest s ∙ ap shown (with_put_other heads nodes lower slot s other)
          ∙ with_previous_shown nodes (Some slot) shown same (head_at heads lower) s

      here : {X : Type 0} (shown : Node → X) → ((node : Node) (previous : Option ℕ) → shown (record node { previous = previous }) ≡ shown node)
          → shown (node_at nodes_now slot) ≡ shown (node_at nodes_put slot)
      here shown same = with_previous_shown nodes_put None shown same rest slot

      heads_other : (at : ℕ) → at ≢ lower → head_at heads_now at ≡ head_at heads_left at
      heads_other at other = ⊎_elim
          (λ same. ap (head_at heads_now) same ∙ set_head heads_put cell rest low_put
          ∙ sym (ap (head_at heads_left) same ∙ taken.head_here first ∙ same_next slot))
          (λ differs. other_head heads_put cell rest at differs ∙ other_head heads lower (Some slot) at other
          ∙ sym (taken.head_other at differs ∙ other_head heads cell (Some slot) at differs))
          (cases_eq at cell)

      lower_left : head_at heads_left lower ≡ head_at heads lower
      lower_left = taken.head_other lower apart ∙ other_head heads cell (Some slot) lower apart

      -- the rest of the list is not in the other cell
      rest_apart : (s : ℕ) → s ≢ slot → head_at heads lower ≡ Some s → rest ≢ Some s
      rest_apart s other second is =
          let in_rest = off.linked.1.next_cell slot s (same_next slot ∙ is) ∙ in_cell in
          let in_lower = off.linked.1.head_cell lower s (other_head heads cell (Some slot) lower apart ∙ second) in
          apart (same_Some lower cell (sym in_lower ∙ in_rest))

      rest_low : (s : ℕ) → rest ≡ Some s → s < length nodes_put
      rest_low s is =
          let lies = off.linked.1.next_cell slot s (same_next slot ∙ is) ∙ in_cell in
          let within = in_room nodes s cell (sym (same_cell s) ∙ lies) in
          let long = length-with_put heads nodes lower slot in omega arith

      previous_kept : (s : ℕ) → s ≢ slot → rest ≢ Some s → previous_in nodes_now s ≡ previous_in (with_previous nodes (head_at heads lower) (Some slot)) s
      previous_kept s other off_rest =
          ap (λ (l : Node). l.previous) (with_previous_other nodes_put None rest s off_rest ∙ with_put_other heads nodes lower slot s other)

      puts : PutsFirst (head_at heads_left) (cell_in nodes_left) (next_in nodes_left) (previous_in nodes_left)
          (head_at heads_now) (cell_in nodes_now) (next_in nodes_now) (previous_in nodes_now) lower slot
      puts = record {
        free = taken.cell_here;
        head_here = other_head heads_put cell rest lower apart ∙ set_head heads lower (Some slot) lower_low;
        head_other = heads_other;
        cell_here = here (λ l. l.cell) (λ node previous. refl) ∙ ap (λ (l : Node). l.cell) (with_put_here heads nodes lower slot slot_low);
        cell_other = λ s other. stays (λ l. l.cell) (λ node previous. refl) s other ∙ sym (taken.cell_other s other ∙ same_cell s);
        next_here = here (λ l. l.next) (λ node previous. refl) ∙ ap (λ (l : Node). l.next) (with_put_here heads nodes lower slot slot_low) ∙ sym lower_left;
        next_other = λ s other. stays (λ l. l.next) (λ node previous. refl) s other ∙ sym (taken.next_other s other (not_before s) ∙ same_next s);
        previous_here = ⊎_elim
            (λ is. ap (λ (l : Node). l.previous) (with_previous_here nodes_put None rest slot is (rest_low slot is)))
            (λ other. ap (λ (l : Node). l.previous) (with_previous_other nodes_put None rest slot other ∙ with_put_here heads nodes lower slot slot_low))
            (cases_some rest slot);
        previous_second = λ s other second. let is : head_at heads lower ≡ Some s = sym lower_left ∙ second in
            previous_kept s other (rest_apart s other is)
            ∙ ap (λ (l : Node). l.previous) (with_previous_here nodes (Some slot) (head_at heads lower) s is
            (in_room nodes s lower (sym (same_cell s) ∙ off.linked.1.head_cell lower s (other_head heads cell (Some slot) lower apart ∙ is))));
        previous_other = λ s other second. ⊎_elim
            (λ is. ap (λ (l : Node). l.previous) (with_previous_here nodes_put None rest s is (rest_low s is))
            ∙ sym (taken.previous_after s (same_next slot ∙ is) ∙ first))
            (λ off_rest. previous_kept s other off_rest
            ∙ ap (λ (l : Node). l.previous) (with_previous_other nodes (Some slot) (head_at heads lower) s (λ is. second (lower_left ∙ is)))
            ∙ sym (taken.previous_other s other (λ is. off_rest (sym (same_next slot) ∙ is)) ∙ same_previous s other))
            (cases_some rest s);
      }

      pub put_on : IsTakenOff cell rest heads_put nodes_put
      put_on =
          let long = length-set heads lower (Some slot) in
          let few = off.few_heads in
          let all = all_cells in
          record {
            linked = (rank_below slot rank, LinksAgree-put _ _ _ _ _ _ _ _ lower slot rank left_linked puts);
            none = other_head heads lower (Some slot) cell (λ same. apart (sym same)) ∙ off.none;
            few_heads = omega arith;
            all_heads = λ some. omega arith;
          }
