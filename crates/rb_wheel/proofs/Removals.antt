-- The lists after a slot was taken out of one.
use Rattle.std.proofs.Common.{◌≡◌, ℕ, ◌<◌, ◌≢◌, List, length, get_or, set, Option, Some, None, IsSome, IfSome, sym, ap, ◌∙◌, refl, subst, arith, ⊎_elim, get_or-set_same, get_or-set_other, length-set}
use Rattle.std.proofs.lemmas.List.{map-set, get_or_read}
use Rattle.std.proofs.Math.Seq.{map-set_same}
use Rattle.std.proofs.lemmas.Option.{none-some}
use Rattle.rb_wheel.specs.declared.node.Node.{Node}
use Rattle.rb_wheel.specs.Nodes.{vacant, node_at, expiry_of, with_next, with_previous, with_first}
use Rattle.rb_wheel.specs.WheelLinks.{head_at, cell_in, next_in, previous_in, cells_of, expiries_of, slots_of, AreLinked, AreSoundLists}
use Rattle.rb_wheel.specs.Lists.{Slots, cell_at}
use Rattle.rb_wheel.proofs.Members.{met}
use Rattle.rb_wheel.proofs.Viewed.{in_room_viewed, cells_viewed, expiries_viewed, if_some, in_heads_of}
use Rattle.rb_wheel.proofs.Linked.{TakesOut, LinksAgree-taken, cases_some}
use Rattle.rb_wheel.proofs.WrittenLinks.{in_room, length-with_previous, with_previous_here, with_previous_other, with_previous_shown, cells_of-with_previous, expiries_of-with_previous, length-with_next, with_next_here, with_next_other, cells_of-with_next, expiries_of-with_next}

-- its neighbours know one another
abbrev pub joined : List Node → ℕ → List Node
joined nodes slot =
    with_next (with_previous nodes (next_in nodes slot) (previous_in nodes slot)) (previous_in nodes slot) (next_in nodes slot)

-- it lies in no cell
abbrev pub taken_out : Node → Node
taken_out node = record node { cell = None; next = None; previous = None }

abbrev pub without : List Node → ℕ → List Node
without nodes slot = set (joined nodes slot) slot (taken_out (node_at (joined nodes slot) slot))

module _ (heads : List (Option ℕ)) (nodes : List Node) (at slot : ℕ) (rank : ℕ → ℕ)
    (linked : AreLinked heads nodes rank) (in_heads : at < length heads)
    (in_cell : cell_in nodes slot ≡ Some at) where
  abbrev before : Option ℕ
  before = previous_in nodes slot

  abbrev after : Option ℕ
  after = next_in nodes slot

  abbrev left : Node
  left = taken_out (node_at (joined nodes slot) slot)

  abbrev noted : List Node
  noted = with_previous nodes after before

  pub in_nodes : slot < length nodes
  in_nodes = in_room nodes slot at in_cell

  pub length-noted : length noted ≡ length nodes
  length-noted = length-with_previous nodes before after

  pub length-joined : length (joined nodes slot) ≡ length nodes
  length-joined = length-with_next noted after before ∙ length-noted

  after_cell : (s : ℕ) → after ≡ Some s → cell_in nodes s ≡ Some at
  after_cell s is = linked.next_cell slot s is ∙ in_cell

  before_cell : (s : ℕ) → before ≡ Some s → cell_in nodes s ≡ Some at
  before_cell s is = sym (linked.next_cell s slot (linked.previous_next s slot is)) ∙ in_cell

  pub after_in_room : (s : ℕ) → after ≡ Some s → s < length nodes
  after_in_room s is = in_room nodes s at (after_cell s is)

  pub before_in_room : (s : ℕ) → before ≡ Some s → s < length noted
  before_in_room s is = let long = length-noted in let low = in_room nodes s at (before_cell s is) in omega arith

  after_apart : (s : ℕ) → after ≡ Some s → s ≢ slot
  after_apart s is same =
      let rises = linked.next_rank slot s is in let equal = ap rank same in omega arith

  before_apart : (s : ℕ) → before ≡ Some s → s ≢ slot
  before_apart s is same =
      let rises = linked.next_rank s slot (linked.previous_next s slot is) in let equal = ap rank same in omega arith

  -- what does not show a neighbour is as before
  same_noted : {X : Type 0} (shown : Node → X) → ((node : Node) (previous : Option ℕ) → shown (record node { previous = previous }) ≡ shown node)
      → (s : ℕ) → shown (node_at noted s) ≡ shown (node_at nodes s)
  same_noted shown same = with_previous_shown nodes before shown same after

  same_joined : {X : Type 0} (shown : Node → X) → ((node : Node) (next : Option ℕ) → shown (record node { next = next }) ≡ shown node)
      → (s : ℕ) → shown (node_at (joined nodes slot) s) ≡ shown (node_at noted s)
  same_joined shown same s = ⊎_elim
      (λ here. ap shown (with_next_here noted after before s here (before_in_room s here)) ∙ same (node_at noted s) after)
      (λ other. ap shown (with_next_other noted after before s other))
      (cases_some before s)

  here : node_at (without nodes slot) slot ≡ left
  here = get_or-set_same (joined nodes slot) slot left vacant (let long = length-joined in let low = in_nodes in omega arith)

  elsewhere : (s : ℕ) → s ≢ slot → node_at (without nodes slot) s ≡ node_at (joined nodes slot) s
  elsewhere s apart = get_or-set_other (joined nodes slot) slot s left vacant apart

  head_first : (b a : Option ℕ) → b ≡ None → head_at (with_first heads at b a) at ≡ a
  head_first None a first = get_or-set_same heads at a None in_heads
  head_first (Some s) a first = absurd (none-some s (sym first))

  head_other : (b a : Option ℕ) (c : ℕ) → c ≢ at → head_at (with_first heads at b a) c ≡ head_at heads c
  head_other None a c apart = get_or-set_other heads at c a None apart
  head_other (Some s) a c apart = refl

  head_inner : (b a : Option ℕ) (s : ℕ) → b ≡ Some s → (c : ℕ) → head_at (with_first heads at b a) c ≡ head_at heads c
  head_inner None a s inner c = absurd (none-some s inner)
  head_inner (Some t) a s inner c = refl

  pub takes : TakesOut (head_at heads) (cell_in nodes) (next_in nodes) (previous_in nodes)
      (head_at (with_first heads at before after)) (cell_in (without nodes slot))
      (next_in (without nodes slot)) (previous_in (without nodes slot)) at slot
  takes = record {
    in_cell = in_cell;
    head_here = head_first before after;
    head_other = head_other before after;
    head_inner = head_inner before after;
    cell_here = ap (λ (l : Node). l.cell) here;
    cell_other = λ s apart. ap (λ (l : Node). l.cell) (elsewhere s apart)
        ∙ same_joined (λ l. l.cell) (λ node next. refl) s ∙ same_noted (λ l. l.cell) (λ node previous. refl) s;
    next_here = ap (λ (l : Node). l.next) here;
    next_before = λ s is. ap (λ (l : Node). l.next) (elsewhere s (before_apart s is))
        ∙ ap (λ (l : Node). l.next) (with_next_here noted after before s is (before_in_room s is));
    next_other = λ s apart other. ap (λ (l : Node). l.next) (elsewhere s apart)
        ∙ ap (λ (l : Node). l.next) (with_next_other noted after before s other)
        ∙ same_noted (λ l. l.next) (λ node previous. refl) s;
    previous_here = ap (λ (l : Node). l.previous) here;
    previous_after = λ s is. ap (λ (l : Node). l.previous) (elsewhere s (after_apart s is))
        ∙ same_joined (λ l. l.previous) (λ node next. refl) s
        ∙ ap (λ (l : Node). l.previous) (with_previous_here nodes before after s is (after_in_room s is));
    previous_other = λ s apart other. ap (λ (l : Node). l.previous) (elsewhere s apart)
        ∙ same_joined (λ l. l.previous) (λ node next. refl) s
        ∙ ap (λ (l : Node). l.previous) (with_previous_other nodes before after s other);
  }

  pub AreLinked-remove : AreLinked (with_first heads at before after) (without nodes slot) rank
  AreLinked-remove = LinksAgree-taken _ _ _ _ _ _ _ _ at slot rank linked takes

  pub cells_of-remove : cells_of (without nodes slot) ≡ set (cells_of nodes) slot None
  cells_of-remove =
      map-set (λ (l : Node). l.cell) (joined nodes slot) slot left
      ∙ ap (λ cells. set cells slot None) (cells_of-with_next noted after before ∙ cells_of-with_previous nodes before after)

  pub expiries_of-remove : expiries_of (without nodes slot) ≡ expiries_of nodes
  expiries_of-remove =
      map-set_same expiry_of (joined nodes slot) slot left vacant refl
      ∙ expiries_of-with_next noted after before ∙ expiries_of-with_previous nodes before after

  pub length-remove : length (without nodes slot) ≡ length nodes
  length-remove = length-set (joined nodes slot) slot left ∙ length-joined

pub length-with_first : (heads : List (Option ℕ)) (at : ℕ) (previous next : Option ℕ) → length (with_first heads at previous next) ≡ length heads
length-with_first heads at None next = length-set heads at next
length-with_first heads at (Some s) next = refl

-- a slot of sound lists is taken out: its node was read, and its cell is known from that
module _ (heads : List (Option ℕ)) (nodes : List Node) (slots : Slots)
    (slot at : ℕ) (node : Node) (sound : AreSoundLists heads nodes) (view : slots_of nodes ≡ slots)
    (lies : IsSome (cell_at slots.cells slot)) (reads : node ≡ get_or nodes slot node) (in_cell : node.cell ≡ Some at) where
  node_is : node ≡ node_at nodes slot
  node_is = get_or_read nodes slot node (in_room_viewed nodes slots view slot lies) reads vacant

  lies_in : cell_in nodes slot ≡ Some at
  lies_in = sym (ap (λ (l : Node). l.cell) node_is) ∙ in_cell

  pub has_head : at < length heads
  has_head =
      let met = met _ _ _ _ sound.linked.0 sound.linked.1 at slot lies_in in
      in_heads_of heads at met.first met.heads

  pub next_low : IfSome node.next (λ s. s < length nodes)
  next_low = if_some node.next (λ s. s < length nodes)
      (λ s is. after_in_room heads nodes at slot sound.linked.0 sound.linked.1 has_head lies_in s
      (sym (ap (λ (l : Node). l.next) node_is) ∙ is))

  pub previous_low : IfSome node.previous (λ s. s < length (with_previous nodes node.next node.previous))
  previous_low = if_some node.previous (λ s. s < length (with_previous nodes node.next node.previous))
      (λ s is.
      let low = before_in_room heads nodes at slot sound.linked.0 sound.linked.1 has_head lies_in s
      (sym (ap (λ (l : Node). l.previous) node_is) ∙ is) in
      let long = length-noted heads nodes at slot sound.linked.0 sound.linked.1 has_head lies_in in
      let same = length-with_previous nodes node.previous node.next in
      omega arith)

  abbrev pub nodes_joined : List Node
  nodes_joined = with_next (with_previous nodes node.next node.previous) node.previous node.next

  abbrev pub nodes_left : List Node
  nodes_left = set nodes_joined slot (taken_out (node_at nodes_joined slot))

  abbrev pub heads_left : List (Option ℕ)
  heads_left = with_first heads at node.previous node.next

  nodes_left_is : nodes_left ≡ without nodes slot
  nodes_left_is =
      ap (λ (l : Node).
      let joined : List Node = with_next (with_previous nodes l.next l.previous) l.previous l.next in
      set joined slot (taken_out (node_at joined slot))) node_is

  pub left_linked : AreLinked heads_left nodes_left sound.linked.0
  left_linked =
      let now = AreLinked-remove heads nodes at slot sound.linked.0 sound.linked.1 has_head lies_in in
      subst (λ ls. AreLinked heads_left ls sound.linked.0) (sym nodes_left_is)
      (subst (λ (l : Node). AreLinked (with_first heads at l.previous l.next) (without nodes slot) sound.linked.0) (sym node_is) now)

  pub cells_left : cells_of nodes_left ≡ set slots.cells slot None
  cells_left =
      ap cells_of nodes_left_is
      ∙ cells_of-remove heads nodes at slot sound.linked.0 sound.linked.1 has_head lies_in
      ∙ ap (λ cs. set cs slot None) (cells_viewed nodes slots view)

  pub expiries_left : expiries_of nodes_left ≡ slots.expiries
  expiries_left =
      ap expiries_of nodes_left_is ∙ expiries_of-remove heads nodes at slot sound.linked.0 sound.linked.1 has_head lies_in
      ∙ expiries_viewed nodes slots view

  pub length-nodes_left : length nodes_left ≡ length nodes
  length-nodes_left = ap length nodes_left_is ∙ length-remove heads nodes at slot sound.linked.0 sound.linked.1 has_head lies_in
