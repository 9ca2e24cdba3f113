-- The links stay right where a slot is put first in a cell's list, and where one is taken out.
use Rattle.std.proofs.Common.{◌≡◌, ℕ, ◌+◌, ◌<◌, ◌≢◌, Option, Some, None, cond, eqb, sym, ap, ◌∙◌, refl, arith, ⊎_elim, ◌⊎◌, inl, inr}
use Rattle.std.proofs.lemmas.Bool.{cases_eq, eq-eqb, ne_eqb}
use Rattle.std.proofs.lemmas.Option.{none-some, same_Some}
use Rattle.rb_wheel.specs.WheelLinks.{LinksAgree}

-- an option is none, or some number
pub cases_option : (P : Type 0) (o : Option ℕ) → (o ≡ None → P) → ((k : ℕ) → o ≡ Some k → P) → P
cases_option P None none some = none refl
cases_option P (Some k) none some = some k refl

-- the slot that was put first has the least rank
abbrev pub rank_below : ℕ → (ℕ → ℕ) → ℕ → ℕ
rank_below slot rank other = cond (eqb other slot) 0 (rank other + 1)

module _ (slot : ℕ) (rank : ℕ → ℕ) where
  rank_below_here : rank_below slot rank slot ≡ 0
  rank_below_here = ap (λ b. cond b 0 (rank slot + 1)) (eq-eqb slot slot refl)

  rank_below_other : (other : ℕ) → other ≢ slot → rank_below slot rank other ≡ rank other + 1
  rank_below_other other apart = ap (λ b. cond b 0 (rank other + 1)) (ne_eqb other slot apart)

-- a free slot is put first in the list of a cell
pub record PutsFirst (head cell next previous new_head new_cell new_next new_previous : ℕ → Option ℕ) (at slot : ℕ) : Type 0 where
  pub free : cell slot ≡ None
  pub head_here : new_head at ≡ Some slot
  pub head_other : (c : ℕ) → c ≢ at → new_head c ≡ head c
  pub cell_here : new_cell slot ≡ Some at
  pub cell_other : (s : ℕ) → s ≢ slot → new_cell s ≡ cell s
  pub next_here : new_next slot ≡ head at
  pub next_other : (s : ℕ) → s ≢ slot → new_next s ≡ next s
  pub previous_here : new_previous slot ≡ None
  pub previous_second : (s : ℕ) → s ≢ slot → head at ≡ Some s → new_previous s ≡ Some slot
  pub previous_other : (s : ℕ) → s ≢ slot → head at ≢ Some s → new_previous s ≡ previous s

-- an option is some number, or is not
pub cases_some : (o : Option ℕ) (k : ℕ) → (o ≡ Some k) ⊎ (o ≢ Some k)
cases_some None k = inr (λ is. none-some k is)
cases_some (Some j) k = ⊎_elim (λ same. inl (ap Some same)) (λ apart. inr (λ is. apart (same_Some j k is))) (cases_eq j k)

module _ (head cell next previous new_head new_cell new_next new_previous : ℕ → Option ℕ) (at slot : ℕ) (rank : ℕ → ℕ)
    (linked : LinksAgree head cell next previous rank)
    (puts : PutsFirst head cell next previous new_head new_cell new_next new_previous at slot) where
  -- what is linked is not the free slot
  has_cell : (s c : ℕ) → cell s ≡ Some c → s ≢ slot
  has_cell s c is same = none-some c (sym puts.free ∙ ap cell (sym same) ∙ is)

  has_next : (s t : ℕ) → next s ≡ Some t → s ≢ slot
  has_next s t is same = none-some t (sym (linked.free_next slot puts.free) ∙ ap next (sym same) ∙ is)

  has_previous : (s t : ℕ) → previous s ≡ Some t → s ≢ slot
  has_previous s t is same = none-some t (sym (linked.free_previous slot puts.free) ∙ ap previous (sym same) ∙ is)

  put_head_cell : (c s : ℕ) → new_head c ≡ Some s → new_cell s ≡ Some c
  put_head_cell c s is = ⊎_elim
      (λ same. let here : s ≡ slot = same_Some s slot (sym is ∙ ap new_head same ∙ puts.head_here) in
      ap new_cell here ∙ puts.cell_here ∙ ap Some (sym same))
      (λ apart. let was = linked.head_cell c s (sym (puts.head_other c apart) ∙ is) in
      puts.cell_other s (has_cell s c was) ∙ was)
      (cases_eq c at)

  put_head_first : (c s : ℕ) → new_head c ≡ Some s → new_previous s ≡ None
  put_head_first c s is = ⊎_elim
      (λ same. let here : s ≡ slot = same_Some s slot (sym is ∙ ap new_head same ∙ puts.head_here) in
      ap new_previous here ∙ puts.previous_here)
      (λ apart. let was : head c ≡ Some s = sym (puts.head_other c apart) ∙ is in
      let in_cell = linked.head_cell c s was in
      puts.previous_other s (has_cell s c in_cell)
      (λ second. apart (same_Some c at (sym in_cell ∙ linked.head_cell at s second)))
      ∙ linked.head_first c s was)
      (cases_eq c at)

  put_first_head : (c s : ℕ) → new_cell s ≡ Some c → new_previous s ≡ None → new_head c ≡ Some s
  put_first_head c s in_cell first = ⊎_elim
      (λ same. let here : c ≡ at = same_Some c at (sym in_cell ∙ ap new_cell same ∙ puts.cell_here) in
      ap new_head here ∙ puts.head_here ∙ ap Some (sym same))
      (λ apart. ⊎_elim
      (λ second. absurd (none-some slot (sym first ∙ puts.previous_second s apart second)))
      (λ other.
      let was = linked.first_head c s (sym (puts.cell_other s apart) ∙ in_cell) (sym (puts.previous_other s apart other) ∙ first) in
      puts.head_other c (λ same. other (ap head (sym same) ∙ was)) ∙ was)
      (cases_some (head at) s))
      (cases_eq s slot)

  put_next_previous : (s t : ℕ) → new_next s ≡ Some t → new_previous t ≡ Some s
  put_next_previous s t is = ⊎_elim
      (λ same. let second : head at ≡ Some t = sym puts.next_here ∙ ap new_next (sym same) ∙ is in
      puts.previous_second t (has_cell t at (linked.head_cell at t second)) second ∙ ap Some (sym same))
      (λ apart. let was = linked.next_previous s t (sym (puts.next_other s apart) ∙ is) in
      puts.previous_other t (has_previous t s was) (λ first. none-some s (sym (linked.head_first at t first) ∙ was)) ∙ was)
      (cases_eq s slot)

  put_previous_next : (s t : ℕ) → new_previous t ≡ Some s → new_next s ≡ Some t
  put_previous_next s t is = ⊎_elim
      (λ same. absurd (none-some s (sym puts.previous_here ∙ ap new_previous (sym same) ∙ is)))
      (λ apart. ⊎_elim
      (λ second. let here : s ≡ slot = same_Some s slot (sym is ∙ puts.previous_second t apart second) in
      ap new_next here ∙ puts.next_here ∙ second)
      (λ other. let was = linked.previous_next s t (sym (puts.previous_other t apart other) ∙ is) in
      puts.next_other s (has_next s t was) ∙ was)
      (cases_some (head at) t))
      (cases_eq t slot)

  put_next_cell : (s t : ℕ) → new_next s ≡ Some t → new_cell t ≡ new_cell s
  put_next_cell s t is = ⊎_elim
      (λ same. let in_cell = linked.head_cell at t (sym puts.next_here ∙ ap new_next (sym same) ∙ is) in
      puts.cell_other t (has_cell t at in_cell) ∙ in_cell ∙ sym (ap new_cell same ∙ puts.cell_here))
      (λ apart. let was : next s ≡ Some t = sym (puts.next_other s apart) ∙ is in
      puts.cell_other t (has_previous t s (linked.next_previous s t was)) ∙ linked.next_cell s t was
      ∙ sym (puts.cell_other s apart))
      (cases_eq s slot)

  put_next_rank : (s t : ℕ) → new_next s ≡ Some t → rank_below slot rank s < rank_below slot rank t
  put_next_rank s t is = ⊎_elim
      (λ same. let in_cell = linked.head_cell at t (sym puts.next_here ∙ ap new_next (sym same) ∙ is) in
      let least : rank_below slot rank s ≡ 0 = ap (rank_below slot rank) same ∙ rank_below_here slot rank in
      let more = rank_below_other slot rank t (has_cell t at in_cell) in
      omega arith)
      (λ apart. let was : next s ≡ Some t = sym (puts.next_other s apart) ∙ is in
      let rises = linked.next_rank s t was in
      let one = rank_below_other slot rank s apart in
      let other = rank_below_other slot rank t (has_previous t s (linked.next_previous s t was)) in
      omega arith)
      (cases_eq s slot)

  put_free_next : (s : ℕ) → new_cell s ≡ None → new_next s ≡ None
  put_free_next s is = ⊎_elim
      (λ same. absurd (none-some at (sym is ∙ ap new_cell same ∙ puts.cell_here)))
      (λ apart. puts.next_other s apart ∙ linked.free_next s (sym (puts.cell_other s apart) ∙ is))
      (cases_eq s slot)

  put_free_previous : (s : ℕ) → new_cell s ≡ None → new_previous s ≡ None
  put_free_previous s is = ⊎_elim
      (λ same. absurd (none-some at (sym is ∙ ap new_cell same ∙ puts.cell_here)))
      (λ apart. let was : cell s ≡ None = sym (puts.cell_other s apart) ∙ is in
      puts.previous_other s apart (λ first. none-some at (sym was ∙ linked.head_cell at s first))
      ∙ linked.free_previous s was)
      (cases_eq s slot)

  pub LinksAgree-put : LinksAgree new_head new_cell new_next new_previous (rank_below slot rank)
  LinksAgree-put = record {
    head_cell = put_head_cell;
    head_first = put_head_first;
    first_head = put_first_head;
    next_previous = put_next_previous;
    previous_next = put_previous_next;
    next_cell = put_next_cell;
    next_rank = put_next_rank;
    free_next = put_free_next;
    free_previous = put_free_previous;
  }

-- a slot is taken out of the list of its cell
pub record TakesOut (head cell next previous new_head new_cell new_next new_previous : ℕ → Option ℕ) (at slot : ℕ) : Type 0 where
  pub in_cell : cell slot ≡ Some at
  pub head_here : previous slot ≡ None → new_head at ≡ next slot
  pub head_other : (c : ℕ) → c ≢ at → new_head c ≡ head c
  pub head_inner : (s : ℕ) → previous slot ≡ Some s → (c : ℕ) → new_head c ≡ head c
  pub cell_here : new_cell slot ≡ None
  pub cell_other : (s : ℕ) → s ≢ slot → new_cell s ≡ cell s
  pub next_here : new_next slot ≡ None
  pub next_before : (s : ℕ) → previous slot ≡ Some s → new_next s ≡ next slot
  pub next_other : (s : ℕ) → s ≢ slot → previous slot ≢ Some s → new_next s ≡ next s
  pub previous_here : new_previous slot ≡ None
  pub previous_after : (s : ℕ) → next slot ≡ Some s → new_previous s ≡ previous slot
  pub previous_other : (s : ℕ) → s ≢ slot → next slot ≢ Some s → new_previous s ≡ previous s

module _ (head cell next previous new_head new_cell new_next new_previous : ℕ → Option ℕ) (at slot : ℕ) (rank : ℕ → ℕ)
    (linked : LinksAgree head cell next previous rank)
    (takes : TakesOut head cell next previous new_head new_cell new_next new_previous at slot) where
  next_apart : (s t : ℕ) → next s ≡ Some t → t ≢ s
  next_apart s t is same =
      let rises = linked.next_rank s t is in
      let equal : rank t ≡ rank s = ap rank same in
      omega arith

  head_is : (c s : ℕ) → new_head c ≡ Some s
      → ((head c ≡ Some s) × (s ≢ slot)) ⊎ ((c ≡ at) × (previous slot ≡ None) × (next slot ≡ Some s))
  head_is c s is = cases_option _ (previous slot)
      (λ first. ⊎_elim
      (λ same. inr (same, first, sym (takes.head_here first) ∙ ap new_head (sym same) ∙ is))
      (λ apart. let was : head c ≡ Some s = sym (takes.head_other c apart) ∙ is in
      inl (was, λ same. apart (same_Some c at (sym (linked.head_cell c s was) ∙ ap cell same ∙ takes.in_cell))))
      (cases_eq c at))
      (λ before inner. let was : head c ≡ Some s = sym (takes.head_inner before inner c) ∙ is in
      inl (was, λ same. none-some before (sym (linked.head_first c s was) ∙ ap previous same ∙ inner)))

  taken_head_cell : (c s : ℕ) → new_head c ≡ Some s → new_cell s ≡ Some c
  taken_head_cell c s is = ⊎_elim
      (λ was. takes.cell_other s was.1 ∙ linked.head_cell c s was.0)
      (λ now. takes.cell_other s (next_apart slot s now.2) ∙ linked.next_cell slot s now.2 ∙ takes.in_cell ∙ ap Some (sym now.0))
      (head_is c s is)

  taken_head_first : (c s : ℕ) → new_head c ≡ Some s → new_previous s ≡ None
  taken_head_first c s is = ⊎_elim
      (λ was. let first = linked.head_first c s was.0 in
      takes.previous_other s was.1 (λ after. none-some slot (sym first ∙ linked.next_previous slot s after)) ∙ first)
      (λ now. takes.previous_after s now.2 ∙ now.1)
      (head_is c s is)

  taken_has_cell : (s c : ℕ) → new_cell s ≡ Some c → s ≢ slot
  taken_has_cell s c is same = none-some c (sym takes.cell_here ∙ ap new_cell (sym same) ∙ is)

  taken_has_next : (s t : ℕ) → new_next s ≡ Some t → s ≢ slot
  taken_has_next s t is same = none-some t (sym takes.next_here ∙ ap new_next (sym same) ∙ is)

  taken_has_previous : (s t : ℕ) → new_previous s ≡ Some t → s ≢ slot
  taken_has_previous s t is same = none-some t (sym takes.previous_here ∙ ap new_previous (sym same) ∙ is)

  taken_first_head : (c s : ℕ) → new_cell s ≡ Some c → new_previous s ≡ None → new_head c ≡ Some s
  taken_first_head c s in_cell first =
      let apart = taken_has_cell s c in_cell in
      let was_in : cell s ≡ Some c = sym (takes.cell_other s apart) ∙ in_cell in
      ⊎_elim
      (λ after. let none : previous slot ≡ None = sym (takes.previous_after s after) ∙ first in
      let same : c ≡ at = same_Some c at (sym was_in ∙ linked.next_cell slot s after ∙ takes.in_cell) in
      ap new_head same ∙ takes.head_here none ∙ after)
      (λ not_after.
      let was : head c ≡ Some s = linked.first_head c s was_in (sym (takes.previous_other s apart not_after) ∙ first) in
      cases_option (new_head c ≡ Some s) (previous slot)
      (λ none. takes.head_other c
      (λ same. apart (same_Some s slot (sym was ∙ ap head same ∙ linked.first_head at slot takes.in_cell none))) ∙ was)
      (λ before inner. takes.head_inner before inner c ∙ was))
      (cases_some (next slot) s)

  next_is : (s t : ℕ) → new_next s ≡ Some t
      → ((previous slot ≡ Some s) × (next slot ≡ Some t)) ⊎ ((previous slot ≢ Some s) × (next s ≡ Some t))
  next_is s t is = ⊎_elim
      (λ before. inl (before, sym (takes.next_before s before) ∙ is))
      (λ not_before. inr (not_before, sym (takes.next_other s (taken_has_next s t is) not_before) ∙ is))
      (cases_some (previous slot) s)

  -- the slot after another than the one before the slot that was taken out
  stays : (s t : ℕ) → previous slot ≢ Some s → next s ≡ Some t → t ≢ slot
  stays s t not_before is same =
      not_before (ap previous (sym same) ∙ linked.next_previous s t is)

  taken_next_previous : (s t : ℕ) → new_next s ≡ Some t → new_previous t ≡ Some s
  taken_next_previous s t is = ⊎_elim
      (λ across. takes.previous_after t across.1 ∙ across.0)
      (λ was. let previous_was = linked.next_previous s t was.1 in
      takes.previous_other t (stays s t was.0 was.1)
      (λ after. taken_has_next s t is (same_Some s slot (sym previous_was ∙ linked.next_previous slot t after)))
      ∙ previous_was)
      (next_is s t is)

  taken_previous_next : (s t : ℕ) → new_previous t ≡ Some s → new_next s ≡ Some t
  taken_previous_next s t is =
      let apart = taken_has_previous t s is in
      ⊎_elim
      (λ after. takes.next_before s (sym (takes.previous_after t after) ∙ is) ∙ after)
      (λ not_after.
      let was : next s ≡ Some t = linked.previous_next s t (sym (takes.previous_other t apart not_after) ∙ is) in
      takes.next_other s (λ same. not_after (ap next (sym same) ∙ was))
      (λ before. apart (same_Some t slot (sym was ∙ linked.previous_next s slot before))) ∙ was)
      (cases_some (next slot) t)

  taken_next_cell : (s t : ℕ) → new_next s ≡ Some t → new_cell t ≡ new_cell s
  taken_next_cell s t is =
      let apart = taken_has_next s t is in
      ⊎_elim
      (λ across. takes.cell_other t (next_apart slot t across.1) ∙ linked.next_cell slot t across.1
      ∙ linked.next_cell s slot (linked.previous_next s slot across.0) ∙ sym (takes.cell_other s apart))
      (λ was. takes.cell_other t (stays s t was.0 was.1) ∙ linked.next_cell s t was.1 ∙ sym (takes.cell_other s apart))
      (next_is s t is)

  taken_next_rank : (s t : ℕ) → new_next s ≡ Some t → rank s < rank t
  taken_next_rank s t is = ⊎_elim
      (λ across. let one = linked.next_rank s slot (linked.previous_next s slot across.0) in
      let other = linked.next_rank slot t across.1 in omega arith)
      (λ was. linked.next_rank s t was.1)
      (next_is s t is)

  taken_free_next : (s : ℕ) → new_cell s ≡ None → new_next s ≡ None
  taken_free_next s is = ⊎_elim
      (λ same. ap new_next same ∙ takes.next_here)
      (λ apart. let free = linked.free_next s (sym (takes.cell_other s apart) ∙ is) in
      takes.next_other s apart (λ before. none-some slot (sym free ∙ linked.previous_next s slot before)) ∙ free)
      (cases_eq s slot)

  taken_free_previous : (s : ℕ) → new_cell s ≡ None → new_previous s ≡ None
  taken_free_previous s is = ⊎_elim
      (λ same. ap new_previous same ∙ takes.previous_here)
      (λ apart. let free = linked.free_previous s (sym (takes.cell_other s apart) ∙ is) in
      takes.previous_other s apart (λ after. none-some slot (sym free ∙ linked.next_previous slot s after)) ∙ free)
      (cases_eq s slot)

  pub LinksAgree-taken : LinksAgree new_head new_cell new_next new_previous rank
  LinksAgree-taken = record {
    head_cell = taken_head_cell;
    head_first = taken_head_first;
    first_head = taken_first_head;
    next_previous = taken_next_previous;
    previous_next = taken_previous_next;
    next_cell = taken_next_cell;
    next_rank = taken_next_rank;
    free_next = taken_free_next;
    free_previous = taken_free_previous;
  }
