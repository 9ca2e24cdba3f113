-- The entries of a wheel, as they come and go.
use Rattle.std.proofs.Common.{◌≡◌, ℕ, ◌+◌, ◌-◌, ◌<◌, ◌≤◌, ◌≢◌, ◌^◌, cond, List, [], length, set, replicate, Option, Some, None, IfSome, is_some, sym, ap, ◌∙◌, refl, subst, arith, ⊎_elim, ◌⊎◌, inl, inr, get_or-set_same, get_or-set_other, length-set}
use Rattle.std.specs.FinMap as map
use Rattle.std.specs.Ordering.{nat_cmp}
use Rattle.std.specs.Cmp.{unsigned_tied, nat_cmp_total}
use Rattle.std.specs.Prelude.{count_by}
use Rattle.std.proofs.lemmas.Bool.{cases_lt, cases_eq, eq-eqb, ne_eqb}
use Rattle.std.proofs.lemmas.List.Sums.{sum_by-set, count_by-le-length}
use Rattle.std.proofs.lemmas.Option.{none-some, IfSome_then}
use Rattle.rb_timer.specs.Content.{Content}
use Rattle.rb_timer.specs.Slots.{content_of, get-content_of, content_of-remove, len-content_of, same_content, content_of-none}
use Rattle.rb_wheel.specs.Cells.{IsCellOf}
use Rattle.rb_wheel.specs.Lists.{Slots, cell_at, slot_expiry}
use Rattle.rb_wheel.specs.Marks.{mark_at}
use Rattle.rb_wheel.specs.Wheel.{LiesRight, LieRight, Waits, IsThere, AreCopies, AreStillThere, Stand, IsNoEarlier, IsFirst, IsWheel}
use Rattle.rb_wheel.specs.declared.marks.Marks.{Marks}
use Rattle.rb_wheel.proofs.Spreads.{waits-more}
use Rattle.rb_wheel.proofs.Rooms.{get_or-padded}
use Rattle.std.proofs.lemmas.List.{length-replicate, get_or_past}

-- after an insert or a removal: what the map has at its own slot, and at another
pub get-insert_same : (content : Content) (slot expiry : ℕ) → map.get (map.insert content slot expiry) slot ≡ Some expiry
get-insert_same content slot expiry =
    map.get-insert nat_cmp_total content slot expiry slot
    ∙ ap (λ b. cond b (Some expiry) (map.get content slot)) (unsigned_tied slot slot ∙ eq-eqb slot slot refl)

pub get-insert_other : (content : Content) (slot expiry other : ℕ) → other ≢ slot → map.get (map.insert content slot expiry) other ≡ map.get content other
get-insert_other content slot expiry other differs =
    map.get-insert nat_cmp_total content slot expiry other
    ∙ ap (λ b. cond b (Some expiry) (map.get content other)) (unsigned_tied other slot ∙ ne_eqb other slot differs)

pub get-remove_same : (content : Content) (slot : ℕ) → map.get (map.remove content slot) slot ≡ None
get-remove_same content slot =
    map.get-remove nat_cmp_total content slot slot
    ∙ ap (λ b. cond b None (map.get content slot)) (unsigned_tied slot slot ∙ eq-eqb slot slot refl)

pub get-remove_other : (content : Content) (slot other : ℕ) → other ≢ slot → map.get (map.remove content slot) other ≡ map.get content other
get-remove_other content slot other differs =
    map.get-remove nat_cmp_total content slot other
    ∙ ap (λ b. cond b None (map.get content other)) (unsigned_tied other slot ∙ ne_eqb other slot differs)

-- what holds at a slot and at each other one holds at each
pub each_slot : (P : ℕ → Type 0) (slot : ℕ) → P slot → ((other : ℕ) → other ≢ slot → P other) → (other : ℕ) → P other
each_slot P slot here elsewhere other =
    ⊎_elim (λ same. subst P (sym same) here) (elsewhere other) (cases_eq other slot)

-- an entry lies right as another that is equal to it
LiesRight-same : (base : ℕ) (expiry new_expiry cell new_cell : Option ℕ) → new_expiry ≡ expiry → new_cell ≡ cell
    → LiesRight base expiry cell → LiesRight base new_expiry new_cell
LiesRight-same base expiry new_expiry cell new_cell same_expiry same_cell lies =
    subst (λ e. LiesRight base e new_cell) (sym same_expiry) (subst (λ c. LiesRight base expiry c) (sym same_cell) lies)

-- how an entry lies by its expiry alone
none_lies : (base : ℕ) (expiry cell : Option ℕ) → LiesRight base expiry cell → expiry ≡ None → cell ≡ None
none_lies base None cell lies none = lies
none_lies base (Some expiry) cell lies none = absurd (none-some expiry (sym none))

-- where a slot stands is told by what it has, there and here
stands-same : (expiries new_expiries : List (Option ℕ)) (early new_early : Content) (cell new_cell : Option ℕ) (waiting new_waiting : Marks) (slot : ℕ)
    → map.get new_early slot ≡ map.get early slot → slot_expiry new_expiries slot ≡ slot_expiry expiries slot → (Waits waiting cell → Waits new_waiting new_cell)
    → IsThere expiries early slot ⊎ ((map.get early slot ≡ None) × Waits waiting cell)
    → IsThere new_expiries new_early slot ⊎ ((map.get new_early slot ≡ None) × Waits new_waiting new_cell)
stands-same expiries new_expiries early new_early cell new_cell waiting new_waiting slot same_early same_expiry still =
    ⊎_elim (λ there. inl (same_early ∙ there ∙ sym same_expiry)) (λ waits. inr (same_early ∙ waits.0, still waits.1))

-- a slot's copy is added, and the others stay
module _ (expiries : List (Option ℕ)) (early new_early : Content) (slot : ℕ) (here : IsThere expiries new_early slot)
    (others : (other : ℕ) → other ≢ slot → map.get new_early other ≡ map.get early other) where
  pub there_still : AreStillThere expiries early new_early
  there_still other there = ⊎_elim
      (λ same. subst (IsThere expiries new_early) (sym same) here)
      (λ apart. others other apart ∙ there)
      (cases_eq other slot)

  pub copied_still : AreCopies expiries early → AreCopies expiries new_early
  copied_still copies = each_slot (λ s. IsThere expiries new_early s ⊎ (map.get new_early s ≡ None)) slot (inl here)
      (λ other apart. ⊎_elim (λ there. inl (others other apart ∙ there)) (λ none. inr (others other apart ∙ none)) (copies other))

-- one slot is written, at its expiry, its cell and in the early timer
module _ (expiries cells new_cells : List (Option ℕ)) (early new_early : Content) (waiting new_waiting : Marks) (slot : ℕ) (expiry : Option ℕ)
    (within : slot < length expiries) (early_other : (other : ℕ) → other ≢ slot → map.get new_early other ≡ map.get early other) where
  abbrev written : List (Option ℕ)
  written = set expiries slot expiry

  pub written_here : slot_expiry written slot ≡ expiry
  written_here = get_or-set_same expiries slot expiry None within

  pub written_other : (other : ℕ) → other ≢ slot → slot_expiry written other ≡ slot_expiry expiries other
  written_other other apart = get_or-set_other expiries slot other expiry None apart

  pub Stand-written : (map.get new_early slot ≡ expiry) ⊎ ((map.get new_early slot ≡ None) × Waits new_waiting (cell_at new_cells slot))
      → ((other : ℕ) → other ≢ slot → Waits waiting (cell_at cells other) → Waits new_waiting (cell_at new_cells other))
      → Stand expiries cells early waiting → Stand written new_cells new_early new_waiting
  Stand-written here waits_other stand = record {
    each = each_slot (λ s. IsThere written new_early s ⊎ ((map.get new_early s ≡ None) × Waits new_waiting (cell_at new_cells s))) slot
        (⊎_elim (λ there. inl (there ∙ sym written_here)) (λ waits. inr waits) here)
        (λ other apart. stands-same expiries written early new_early (cell_at cells other) (cell_at new_cells other) waiting new_waiting other
        (early_other other apart) (written_other other apart) (waits_other other apart) (stand.each other));
  }

  -- none of the others that is not there expires before what did not before
  pub others-written : (first new_first : Option (ℕ × ℕ)) → (map.get new_early slot ≡ expiry) ⊎ IsNoEarlier new_first expiry
      → ((e : Option ℕ) → IsNoEarlier first e → IsNoEarlier new_first e)
      → IsFirst expiries early first → (other : ℕ) → IsThere written new_early other ⊎ IsNoEarlier new_first (slot_expiry written other)
  others-written first new_first here no_later is_first =
      each_slot (λ s. IsThere written new_early s ⊎ IsNoEarlier new_first (slot_expiry written s)) slot
      (⊎_elim (λ there. inl (there ∙ sym written_here)) (λ later. inr (subst (IsNoEarlier new_first) (sym written_here) later)) here)
      (λ other apart. ⊎_elim
      (λ there. inl (early_other other apart ∙ there ∙ sym (written_other other apart)))
      (λ later. inr (subst (IsNoEarlier new_first) (sym (written_other other apart)) (no_later (slot_expiry expiries other) later)))
      (is_first.others other))

  -- an entry elsewhere has its expiry still
  expires-written : (entry : ℕ × ℕ) → entry.0 ≢ slot → slot_expiry expiries entry.0 ≡ Some entry.1 → slot_expiry written entry.0 ≡ Some entry.1
  expires-written entry apart expires = written_other entry.0 apart ∙ expires

  -- what is put into the early timer leaves the first entry
  pub IsFirst-there : slot_expiry expiries slot ≡ None → map.get new_early slot ≡ expiry → (first : Option (ℕ × ℕ))
      → IsFirst expiries early first → IsFirst written new_early first
  IsFirst-there absent there None is_first = record { expires = tt; others = others-written None None (inl there) (λ e later. later) is_first }
  IsFirst-there absent there (Some entry) is_first = record {
    expires = expires-written entry (λ same. none-some entry.1 (sym absent ∙ ap (slot_expiry expiries) (sym same) ∙ is_first.expires)) is_first.expires;
    others = others-written (Some entry) (Some entry) (inl there) (λ e later. later) is_first;
  }

  no_later-than : (first : Option (ℕ × ℕ)) (now : ℕ × ℕ) → IfSome first (λ best. now.1 ≤ best.1) → (e : Option ℕ) → IsNoEarlier first e → IsNoEarlier (Some now) e
  no_later-than None now no_worse e later = absurd later
  no_later-than (Some best) now no_worse e later = IfSome_then e later (λ another from. omega arith)

  -- what is put into a cell is the first now, or no earlier than that
  pub IsFirst-more : (e : ℕ) → expiry ≡ Some e → slot_expiry expiries slot ≡ None → (first : Option (ℕ × ℕ)) (now : ℕ × ℕ) → now.1 ≤ e
      → IfSome first (λ best. now.1 ≤ best.1) → (now ≡ (slot, e)) ⊎ (first ≡ Some now) → IsFirst expiries early first → IsFirst written new_early (Some now)
  IsFirst-more e is absent first now no_later no_worse either is_first = record {
    expires = ⊎_elim
        (λ same. ap (λ (x : ℕ × ℕ). slot_expiry written x.0) same ∙ written_here ∙ is ∙ ap (λ (x : ℕ × ℕ). Some x.1) (sym same))
        (λ was.
        let expired : slot_expiry expiries now.0 ≡ Some now.1 = subst (λ o. IfSome o (λ (x : ℕ × ℕ). slot_expiry expiries x.0 ≡ Some x.1)) was is_first.expires in
        expires-written now (λ same. none-some now.1 (sym absent ∙ ap (slot_expiry expiries) (sym same) ∙ expired)) expired)
        either;
    others = others-written first (Some now) (inr (subst (λ o. IsNoEarlier (Some now) o) (sym is) no_later)) (no_later-than first now no_worse) is_first;
  }

-- the wheel once one slot was written
module _ (expiries cells new_cells : List (Option ℕ)) (early new_early : Content) (room new_room : ℕ) (waiting new_waiting : Marks) (base len new_len : ℕ)
    (first new_first : Option (ℕ × ℕ)) (wheel : IsWheel expiries cells early room waiting base len first) (slot : ℕ) (expiry : Option ℕ) (within : slot < length expiries)
    (long : length new_cells ≡ length cells) (same_room : new_room ≡ room)
    (moment : IfSome expiry (λ e. e < 2 ^ 64)) (lies : LiesRight base expiry (cell_at new_cells slot))
    (cells_other : (other : ℕ) → other ≢ slot → cell_at new_cells other ≡ cell_at cells other)
    (count : new_len + cond (is_some (slot_expiry expiries slot)) 1 0 ≡ len + cond (is_some expiry) 1 0) where
  abbrev now : List (Option ℕ)
  now = set expiries slot expiry

  here : slot_expiry now slot ≡ expiry
  here = get_or-set_same expiries slot expiry None within

  elsewhere : (other : ℕ) → other ≢ slot → slot_expiry now other ≡ slot_expiry expiries other
  elsewhere other apart = get_or-set_other expiries slot other expiry None apart

  pub LieRight-written : LieRight base now new_cells
  LieRight-written = record {
    each = each_slot (λ s. LiesRight base (slot_expiry now s) (cell_at new_cells s)) slot
        (LiesRight-same base expiry (slot_expiry now slot) (cell_at new_cells slot) (cell_at new_cells slot) here refl lies)
        (λ other apart. LiesRight-same base (slot_expiry expiries other) (slot_expiry now other) (cell_at cells other) (cell_at new_cells other)
        (elsewhere other apart) (cells_other other apart) (wheel.right.each other));
  }

  pub length-written : length now ≡ length expiries
  length-written = length-set expiries slot expiry

  pub IsWheel-written : Stand now new_cells new_early new_waiting → IsFirst now new_early new_first
      → IsWheel now new_cells new_early new_room new_waiting base new_len new_first
  IsWheel-written stand is_first = record {
    right = LieRight-written;
    moments = each_slot (λ s. IfSome (slot_expiry now s) (λ e. e < 2 ^ 64)) slot
        (subst (λ e. IfSome e (λ x. x < 2 ^ 64)) (sym here) moment)
        (λ other apart. subst (λ e. IfSome e (λ x. x < 2 ^ 64)) (sym (elsewhere other apart)) (wheel.moments other));
    stand = stand;
    in_lists = let fits = wheel.in_lists in let same = length-written in omega arith;
    in_early = let fits = wheel.in_early in let same = length-written in omega arith;
    counted =
        let counts = sum_by-set (λ e. cond (is_some e) 1 0) expiries slot expiry None within in
        let was = wheel.counted in omega (arith, counts, was, count);
    is_first = is_first;
  }

module _ (expiries cells : List (Option ℕ)) (early : Content) (room : ℕ) (waiting : Marks) (base len : ℕ) (first : Option (ℕ × ℕ))
    (wheel : IsWheel expiries cells early room waiting base len first) (slot : ℕ) (within : slot < length expiries) where
  -- a slot with no entry lies nowhere, and there are fewer entries than slots
  module _ (absent : slot_expiry expiries slot ≡ None) where
    pub free : cell_at cells slot ≡ None
    free = none_lies base (slot_expiry expiries slot) (cell_at cells slot) (wheel.right.each slot) absent

    pub not_early : map.get early slot ≡ None
    not_early = ⊎_elim (λ there. there ∙ absent) (λ waits. waits.0) (wheel.stand.each slot)

    pub fewer : len < length expiries
    fewer =
        let counts = sum_by-set (λ e. cond (is_some e) 1 0) expiries slot (Some 0) None within in
        let most = count_by-le-length (is_some {T = ℕ}) (set expiries slot (Some 0)) in
        let same = length-set expiries slot (Some 0) in
        let was = wheel.counted in
        let none : ℕ = 0 in
        let one : ℕ = 1 in
        let gone : cond (is_some (slot_expiry expiries slot)) one none ≡ none = ap (λ e. cond (is_some e) one none) absent in
        omega (arith, counts, most, same, was, gone)

    count_one : (len + 1) + cond (is_some (slot_expiry expiries slot)) 1 0 ≡ len + 1
    count_one =
        let none : ℕ = 0 in
        let one : ℕ = 1 in
        let gone : cond (is_some (slot_expiry expiries slot)) one none ≡ none = ap (λ e. cond (is_some e) one none) absent in
        omega (arith, gone)

    -- the entry goes into the early timer, and into its cell if it has one
    pub insert_there : (e new_room : ℕ) (new_early : Content) (new_cells : List (Option ℕ)) → e < 2 ^ 64 → length new_cells ≡ length cells
        → LiesRight base (Some e) (cell_at new_cells slot) → ((other : ℕ) → other ≢ slot → cell_at new_cells other ≡ cell_at cells other)
        → new_early ≡ map.insert early slot e → new_room ≡ room
        → IsWheel (set expiries slot (Some e)) new_cells new_early new_room waiting base (len + 1) first
    insert_there e new_room new_early new_cells moment long lies cells_other is same_room =
        let early_here : map.get new_early slot ≡ Some e = ap (λ m. map.get m slot) is ∙ get-insert_same early slot e in
        let early_other = λ (other : ℕ) (apart : other ≢ slot). ap (λ m. map.get m other) is ∙ get-insert_other early slot e other apart in
        IsWheel-written expiries cells new_cells early new_early room new_room waiting waiting base len (len + 1) first first wheel slot (Some e) within long same_room moment
        lies cells_other count_one
        (Stand-written expiries cells new_cells early new_early waiting waiting slot (Some e) within early_other (inl early_here)
        (λ other apart waits. subst (λ c. Waits waiting c) (sym (cells_other other apart)) waits) wheel.stand)
        (IsFirst-there expiries cells new_cells early new_early waiting waiting slot (Some e) within early_other absent early_here first wheel.is_first)

    pub insert_early : (e new_room : ℕ) (new_early : Content) → e < 2 ^ 64 → e < base → new_early ≡ map.insert early slot e → new_room ≡ room
        → IsWheel (set expiries slot (Some e)) cells new_early new_room waiting base (len + 1) first
    insert_early e new_room new_early moment before is same_room =
        insert_there e new_room new_early cells moment refl
        (LiesRight-same base (Some e) (Some e) None (cell_at cells slot) refl free before) (λ other apart. refl) is same_room

    module _ (e at : ℕ) (moment : e < 2 ^ 64) (after : base ≤ e) (in_cell : IsCellOf base e at) where
      abbrev cells_now : List (Option ℕ)
      cells_now = set cells slot (Some at)

      cell_here : cell_at cells_now slot ≡ Some at
      cell_here = let lists = wheel.in_lists in get_or-set_same cells slot (Some at) None (omega arith)

      cell_other : (other : ℕ) → other ≢ slot → cell_at cells_now other ≡ cell_at cells other
      cell_other other apart = get_or-set_other cells slot other (Some at) None apart

      lies_now : LiesRight base (Some e) (cell_at cells_now slot)
      lies_now = LiesRight-same base (Some e) (Some e) (Some at) (cell_at cells_now slot) refl cell_here (after, in_cell)

      pub insert_copied : (new_room : ℕ) (new_early : Content) → new_early ≡ map.insert early slot e → new_room ≡ room
          → IsWheel (set expiries slot (Some e)) cells_now new_early new_room waiting base (len + 1) first
      insert_copied new_room new_early is same_room =
          insert_there e new_room new_early cells_now moment (length-set cells slot (Some at)) lies_now cell_other is same_room

      pub insert_waiting : (new_waiting : Marks) (now : ℕ × ℕ) → mark_at new_waiting at ≡ 1
          → ((other : ℕ) → other ≢ at → mark_at new_waiting other ≡ mark_at waiting other)
          → now.1 ≤ e → IfSome first (λ best. now.1 ≤ best.1) → (now ≡ (slot, e)) ⊎ (first ≡ Some now)
          → IsWheel (set expiries slot (Some e)) cells_now early room new_waiting base (len + 1) (Some now)
      insert_waiting new_waiting now marked elsewhere no_later no_worse either =
          IsWheel-written expiries cells cells_now early early room room waiting new_waiting base len (len + 1) first (Some now) wheel slot (Some e) within
          (length-set cells slot (Some at)) refl moment lies_now cell_other count_one
          (Stand-written expiries cells cells_now early early waiting new_waiting slot (Some e) within (λ other apart. refl)
          (inr (not_early, subst (λ c. Waits new_waiting c) (sym cell_here) marked))
          (λ other apart waits. subst (λ c. Waits new_waiting c) (sym (cell_other other apart))
          (waits-more waiting new_waiting at marked elsewhere (cell_at cells other) waits)) wheel.stand)
          (IsFirst-more expiries cells cells_now early early waiting new_waiting slot (Some e) within (λ other apart. refl)
          e refl absent first now no_later no_worse either wheel.is_first)

  -- a slot with an entry
  module _ (e : ℕ) (present : slot_expiry expiries slot ≡ Some e) where
    pub some_left : 0 < len
    some_left =
        let counts = sum_by-set (λ x. cond (is_some x) 1 0) expiries slot None None within in
        let was = wheel.counted in
        let none : ℕ = 0 in
        let one : ℕ = 1 in
        let here : cond (is_some (slot_expiry expiries slot)) one none ≡ one = ap (λ x. cond (is_some x) one none) present in
        omega (arith, counts, was, here)

    count_less : (len - 1) + cond (is_some (slot_expiry expiries slot)) 1 0 ≡ len + 0
    count_less =
        let none : ℕ = 0 in
        let one : ℕ = 1 in
        let here : cond (is_some (slot_expiry expiries slot)) one none ≡ one = ap (λ x. cond (is_some x) one none) present in
        let some = some_left in
        omega (arith, here)

    -- the entry leaves the early timer and its cell
    module _ (between left : Slots) (left_early : Content) (left_waiting : Marks) (vacated : between ≡ record { expiries = set expiries slot None; cells = cells })
        (expiries_kept : left.expiries ≡ between.expiries) (long : length left.cells ≡ length between.cells) (cell_gone : cell_at left.cells slot ≡ None)
        (others : (other : ℕ) → other ≢ slot → cell_at left.cells other ≡ cell_at between.cells other)
        (early_gone : map.get left_early slot ≡ None) (early_other : (other : ℕ) → other ≢ slot → map.get left_early other ≡ map.get early other)
        (waits : (other : ℕ) → other ≢ slot → Waits waiting (cell_at between.cells other) → Waits left_waiting (cell_at between.cells other)) where
      expiries_left : left.expiries ≡ set expiries slot None
      expiries_left = expiries_kept ∙ ap (λ (s : Slots). s.expiries) vacated

      cells_kept : between.cells ≡ cells
      cells_kept = ap (λ (s : Slots). s.cells) vacated

      pub left_stand : Stand left.expiries left.cells left_early left_waiting
      left_stand = subst (λ es. Stand es left.cells left_early left_waiting) (sym expiries_left)
          (Stand-written expiries cells left.cells early left_early waiting left_waiting slot None within early_other (inl early_gone)
          (λ other apart waited. subst (λ c. Waits left_waiting c) (sym (others other apart)) (waits other apart
          (subst (λ cs. Waits waiting (cell_at cs other)) (sym cells_kept) waited))) wheel.stand)

      pub IsWheel-left : (new_room : ℕ) (new_early : Content) (new_waiting : Marks) (new_first : Option (ℕ × ℕ)) → new_room ≡ room
          → Stand left.expiries left.cells new_early new_waiting → IsFirst left.expiries new_early new_first
          → IsWheel left.expiries left.cells new_early new_room new_waiting base (len - 1) new_first
      IsWheel-left new_room new_early new_waiting new_first same_room stand is_first =
          subst (λ es. IsWheel es left.cells new_early new_room new_waiting base (len - 1) new_first) (sym expiries_left)
          (IsWheel-written expiries cells left.cells early new_early room new_room waiting new_waiting base len (len - 1) first new_first wheel slot None within
          (long ∙ ap length cells_kept) same_room tt cell_gone (λ other apart. others other apart ∙ ap (λ cs. cell_at cs other) cells_kept) count_less
          (subst (λ es. Stand es left.cells new_early new_waiting) expiries_left stand)
          (subst (λ es. IsFirst es new_early new_first) expiries_left is_first))

-- the wheel has more room, and the same entries
pub IsWheel-reserved : (expiries new_expiries cells new_cells : List (Option ℕ)) (early new_early : Content) (room new_room : ℕ) (waiting : Marks) (base len : ℕ) (first : Option (ℕ × ℕ))
    → ((slot : ℕ) → slot_expiry new_expiries slot ≡ slot_expiry expiries slot) → ((slot : ℕ) → cell_at new_cells slot ≡ cell_at cells slot)
    → new_early ≡ early → length new_expiries ≤ length new_cells → length new_expiries ≤ new_room
    → IsWheel expiries cells early room waiting base len first → IsWheel new_expiries new_cells new_early new_room waiting base len first
IsWheel-reserved expiries new_expiries cells new_cells early new_early room new_room waiting base len first same_expiries same_cells same_early lists_fit early_fit wheel =
    let same_there = λ (slot : ℕ). ap (λ (m : Content). map.get m slot) same_early in
    record {
      right = record {
        each = λ slot. LiesRight-same base (slot_expiry expiries slot) (slot_expiry new_expiries slot) (cell_at cells slot) (cell_at new_cells slot)
            (same_expiries slot) (same_cells slot) (wheel.right.each slot);
      };
      moments = λ slot. subst (λ e. IfSome e (λ x. x < 2 ^ 64)) (sym (same_expiries slot)) (wheel.moments slot);
      stand = record {
        each = λ slot. stands-same expiries new_expiries early new_early (cell_at cells slot) (cell_at new_cells slot) waiting waiting slot
            (same_there slot) (same_expiries slot) (λ waits. subst (λ c. Waits waiting c) (sym (same_cells slot)) waits) (wheel.stand.each slot);
      };
      in_lists = lists_fit;
      in_early = early_fit;
      counted =
          wheel.counted ∙ sym (len-content_of expiries) ∙ ap map.len (sym (same_content new_expiries expiries same_expiries))
          ∙ len-content_of new_expiries;
      is_first = record {
        expires = IfSome_then first wheel.is_first.expires (λ entry expires. same_expiries entry.0 ∙ expires);
        others = λ slot. ⊎_elim
            (λ there. inl (same_there slot ∙ there ∙ sym (same_expiries slot)))
            (λ later. inr (subst (IsNoEarlier first) (sym (same_expiries slot)) later))
            (wheel.is_first.others slot);
      };
    }

-- no slot has an entry
pub IsWheel-none : (expiries new_expiries cells new_cells : List (Option ℕ)) (early new_early : Content) (room new_room : ℕ) (waiting new_waiting : Marks) (base len : ℕ) (first : Option (ℕ × ℕ))
    → new_expiries ≡ replicate (length expiries) None → new_cells ≡ replicate (length cells) None → new_early ≡ map.empty → new_room ≡ room
    → IsWheel expiries cells early room waiting base len first → IsWheel new_expiries new_cells new_early new_room new_waiting base 0 None
IsWheel-none expiries new_expiries cells new_cells early new_early room new_room waiting new_waiting base len first no_expiries no_cells no_early same_room wheel =
    let no_expiry = λ (slot : ℕ). ap (λ es. slot_expiry es slot) no_expiries ∙ get_or-padded [] (length expiries) slot None in
    let no_cell = λ (slot : ℕ). ap (λ cs. cell_at cs slot) no_cells ∙ get_or-padded [] (length cells) slot None in
    let there = λ (slot : ℕ). ap (λ (m : Content). map.get m slot) no_early ∙ map.get-empty nat_cmp slot ∙ sym (no_expiry slot) in
    let long_expiries : length new_expiries ≡ length expiries = ap length no_expiries ∙ length-replicate (length expiries) None in
    let long_cells : length new_cells ≡ length cells = ap length no_cells ∙ length-replicate (length cells) None in
    let lists_fit = wheel.in_lists in
    let early_fit = wheel.in_early in
    record {
      right = record { each = λ slot. LiesRight-same base None (slot_expiry new_expiries slot) None (cell_at new_cells slot) (no_expiry slot) (no_cell slot) refl };
      moments = λ slot. subst (λ e. IfSome e (λ x. x < 2 ^ 64)) (sym (no_expiry slot)) tt;
      stand = record { each = λ slot. inl (there slot) };
      in_lists = omega arith;
      in_early = omega arith;
      counted = sym (map.len-empty nat_cmp ℕ) ∙ ap map.len (sym (content_of-none (length expiries)) ∙ ap content_of (sym no_expiries)) ∙ len-content_of new_expiries;
      is_first = record { expires = tt; others = λ slot. inl (there slot) };
    }

-- a slot with an entry stands in the row
pub some_within : (expiries : List (Option ℕ)) (slot e : ℕ) → slot_expiry expiries slot ≡ Some e → slot < length expiries
some_within expiries slot e is = ⊎_elim (λ within. within)
    (λ past. absurd (none-some e (sym (get_or_past expiries slot None past) ∙ is)))
    (cases_lt slot (length expiries))

-- an entry that leaves is no longer counted
pub count-less : (old new : List (Option ℕ)) (slot e : ℕ) → map.get (content_of old) slot ≡ Some e → content_of new ≡ map.remove (content_of old) slot
    → count_by is_some new < count_by is_some old
count-less old new slot e present is =
    let here : slot_expiry old slot ≡ Some e = sym (get-content_of old slot) ∙ present in
    let within = some_within old slot e here in
    let same : count_by is_some new ≡ count_by is_some (set old slot None) =
    sym (len-content_of new) ∙ ap map.len (is ∙ sym (content_of-remove old slot within)) ∙ len-content_of (set old slot None) in
    let counts = sum_by-set (λ x. cond (is_some x) 1 0) old slot None None within in
    let zero : ℕ = 0 in
    let one : ℕ = 1 in
    let counted : cond (is_some (slot_expiry old slot)) one zero ≡ one = ap (λ x. cond (is_some x) one zero) here in
    omega (arith, counts, same, counted)
