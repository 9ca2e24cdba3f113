-- The entries of a cell, spread over lower ones one after another.
use Rattle.std.proofs.Common.{◌≡◌, ℕ, ◌<◌, ◌≤◌, ◌≢◌, Bool, true, false, cond, eqb, List, length, set, Option, Some, None, sym, ap, ◌∙◌, refl, subst, arith, ⊎_elim, get_or-set_same, get_or-set_other}
use Rattle.std.specs.Prelude.{count_by, IsSomeAnd}
use Rattle.std.proofs.lemmas.Bool.{cases_lt, cases_eq, eq-eqb, ne_eqb}
use Rattle.std.proofs.lemmas.List.{get_or_past}
use Rattle.std.proofs.lemmas.List.Sums.{sum_by-set}
use Rattle.std.proofs.lemmas.Option.{none-some, same_Some}
use Rattle.rb_wheel.specs.declared.node.Node.{Node}
use Rattle.rb_wheel.specs.Cells.{IsCellOf}
use Rattle.rb_wheel.specs.Lists.{cell_at, slot_expiry, IsVacant}
use Rattle.rb_wheel.specs.Nodes.{expiry_of}
use Rattle.rb_wheel.specs.Wheel.{LiesRight, LieRight, MaySpread, Waits, StillWait}
use Rattle.rb_wheel.specs.declared.marks.Marks.{Marks}
use Rattle.rb_wheel.specs.Marks.{mark_at}
use Rattle.rb_wheel.proofs.Moves.{lies_in}

-- how many slots a cell holds
abbrev pub is_in : ℕ → Option ℕ → Bool
is_in cell None = false
is_in cell (Some other) = eqb other cell

abbrev pub count_in : ℕ → List (Option ℕ) → ℕ
count_in cell cells = count_by (is_in cell) cells

in_row : (cells : List (Option ℕ)) (slot cell : ℕ) → cell_at cells slot ≡ Some cell → slot < length cells
in_row cells slot cell lies = ⊎_elim (λ within. within)
    (λ past. absurd (none-some cell (sym (get_or_past cells slot None past) ∙ lies)))
    (cases_lt slot (length cells))

-- the expiry of an entry that has one is the number in its node
some_expiry : (is_taken : Bool) (expiry : ℕ) (P : ℕ → Type 0) → IsSomeAnd (cond is_taken (Some expiry) None) P
    → (cond is_taken (Some expiry) None ≡ Some expiry) × P expiry
some_expiry true expiry P holds = (refl, holds)
some_expiry false expiry P holds = absurd (holds)

-- one more cell waits
pub waits-more : (waiting new_waiting : Marks) (at : ℕ) → mark_at new_waiting at ≡ 1
    → ((other : ℕ) → other ≢ at → mark_at new_waiting other ≡ mark_at waiting other)
    → (cell : Option ℕ) → Waits waiting cell → Waits new_waiting cell
waits-more waiting new_waiting at here elsewhere None waits = absurd waits
waits-more waiting new_waiting at here elsewhere (Some cell) waits = ⊎_elim
    (λ same. ap (mark_at new_waiting) same ∙ here)
    (λ apart. elsewhere cell apart ∙ waits)
    (cases_eq cell at)

-- an entry of the cell is put where it belongs
module _ (base cell : ℕ) (expiries cells : List (Option ℕ)) (may : MaySpread base cell expiries cells)
    (slot : ℕ) (node : Node) (lies : cell_at cells slot ≡ Some cell) (is : slot_expiry expiries slot ≡ expiry_of node)
    (lower : ℕ) (belongs : IsCellOf base node.expiry lower) where
  inside : (expiry_of node ≡ Some node.expiry) × ((base ≤ node.expiry) × ((other : ℕ) → IsCellOf base node.expiry other → other < cell))
  inside = some_expiry node.is_taken node.expiry
      (λ expiry. (base ≤ expiry) × ((other : ℕ) → IsCellOf base expiry other → other < cell))
      (subst (λ e. IsSomeAnd e (λ expiry. (base ≤ expiry) × ((other : ℕ) → IsCellOf base expiry other → other < cell))) is (may.inside slot lies))

  -- which is in a lower cell
  pub before : lower < cell
  before = inside.1.1 lower belongs

  within : slot < length cells
  within = in_row cells slot cell lies

  abbrev put : List (Option ℕ)
  put = set cells slot (Some lower)

  here : cell_at put slot ≡ Some lower
  here = get_or-set_same cells slot (Some lower) None within

  elsewhere : (other : ℕ) → other ≢ slot → cell_at put other ≡ cell_at cells other
  elsewhere other apart = get_or-set_other cells slot other (Some lower) None apart

  pub may_still : MaySpread base cell expiries put
  may_still = record {
    others = λ other off. ⊎_elim
        (λ same. subst (λ s. LiesRight base (slot_expiry expiries s) (cell_at put s)) (sym same)
        (lies_in base (slot_expiry expiries slot) (cell_at put slot) node.expiry lower (is ∙ inside.0) here inside.1.0 belongs))
        (λ apart. subst (λ c. LiesRight base (slot_expiry expiries other) c) (sym (elsewhere other apart))
        (may.others other (λ in_cell. off (elsewhere other apart ∙ in_cell))))
        (cases_eq other slot);
    inside = λ other in_cell. may.inside other
        (sym (elsewhere other
        (λ same. let low = before in let at = same_Some lower cell (sym here ∙ ap (cell_at put) (sym same) ∙ in_cell) in omega arith))
        ∙ in_cell);
  }

  -- where it waits, as the others do where they did
  pub waits_still : (first_cells : List (Option ℕ)) (first_waiting waiting new_waiting : Marks) → mark_at new_waiting lower ≡ 1
      → ((other : ℕ) → other ≢ lower → mark_at new_waiting other ≡ mark_at waiting other)
      → StillWait first_waiting first_cells waiting cells → StillWait first_waiting first_cells new_waiting put
  waits_still first_cells first_waiting waiting new_waiting marked elsewhere_marked still other waited = ⊎_elim
      (λ same. subst (λ c. Waits new_waiting c) (sym (ap (cell_at put) same ∙ here)) marked)
      (λ apart. subst (λ c. Waits new_waiting c) (sym (elsewhere other apart))
      (waits-more waiting new_waiting lower marked elsewhere_marked (cell_at cells other) (still other waited)))
      (cases_eq other slot)

  -- so that its own cell holds one less
  pub one_less : count_in cell put < count_in cell cells
  one_less =
      let counts = sum_by-set (λ c. cond (is_in cell c) 1 0) cells slot (Some lower) None within in
      let low = before in
      let one : ℕ = 1 in
      let none : ℕ = 0 in
      let was : cond (is_in cell (cell_at cells slot)) one none ≡ one = ap (λ c. cond (is_in cell c) one none) lies ∙ ap (λ b. cond b one none) (eq-eqb cell cell refl) in
      let now : cond (is_in cell (Some lower)) one none ≡ none = ap (λ b. cond b one none) (ne_eqb lower cell (λ same. omega arith)) in
      omega (arith, counts, was, now)

-- with none left there all lie right
pub all_right : (base cell : ℕ) (expiries cells : List (Option ℕ)) → MaySpread base cell expiries cells → IsVacant cells cell → LieRight base expiries cells
all_right base cell expiries cells may vacant = record { each = λ slot. may.others slot (vacant slot) }
