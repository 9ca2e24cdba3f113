-- The step that takes the lock, or finds it taken, keeps the rule.
use Rattle.std.proofs.Common.{◌≡◌, ◌≢◌, ℕ, ◌+◌, ◌<◌, ◌==◌, List, [], set, refl, ap, sym, subst, arith, ◌⊎◌, ⊎_elim, inr}
use Rattle.std.specs.Prelude.{Option, Some, slice_index, slice_set}
use mathlib.Core.Option as maybe
use mathlib.Core.Option.{none, some}
use lib.ListN.{get_elem?}
use prog.Atomic.{either}
use Rattle.atomic_table.specs.Table.{State, Act, step, stepped, carried_after, Valid, keeps, takes, Allows}
use Rattle.atomic_table.proofs.Lists.{at_set, exchanged}
use Rattle.atomic_table.specs.Seated.{TableId}
use Rattle.rb_lock.specs.Parts.{all_parts}
use Rattle.rb_lock.specs.Passes.{PassState}
use Rattle.rb_lock.specs.Views.{idle, pass_of, weight, holders, total, holder_of}
use Rattle.rb_lock.specs.Rule.{Fits, Locked, IsFree, IsHeld, pair_of}
use Rattle.rb_lock.specs.LockSteps.{LockSeat, AtRest, Noted, taken}
use Rattle.rb_lock.specs.declared.pair.Pair.{Pair}
use Rattle.rb_lock.specs.declared.view.View.{View}
use Rattle.rb_lock.proofs.Halvings.{nameless}
use Rattle.rb_lock.proofs.Sums.{total_set, total_at, total_two, total_alone}

module _ {T : Type 0} (s : State (Option (Pair T)) View) (law : Locked s) (id : ℕ) (v : View) (at : get_elem? s.views id ≡ some v) where
  -- what the rule tells of the view
  pub found_at : Noted law.log law.names v
  found_at = record {
    fits = law.fits id v at;
    few = law.few;
    once = λ name. omega (arith, total_at (weight name) s.views id v at, law.once name);
    below = λ name above. omega (arith, total_at (weight name) s.views id v at, law.below name above);
    not_given = law.not_given;
    whole = λ all name less. omega (arith, law.all name less, total_alone (weight name) s.views id v at (λ by u apart there. others all by u apart there name));
  }
    where
      others : v.parts ≡ all_parts → (by : ℕ) (u : View) → by ≢ id → get_elem? s.views by ≡ some u → (name : ℕ) → weight name u ≡ 0
      others all by u apart there =
          nameless u.live u law.names (law.fits by u there).part
          (omega (arith, total_two (λ v. v.parts) s.views by id u v apart there at, law.whole, all))

  -- a view changes in which each name stands as often as before, and the log and the names stay
  pub unmoved : (words : List ℕ) (homes : List (maybe.Option (Option (Pair T)))) (w : View) → ((name : ℕ) → weight name w ≡ weight name v) → w.parts ≡ v.parts → Fits law.log law.names w
      → (let s' : State (Option (Pair T)) View = record { words = words; homes = homes; views = set s.views id w } in IsFree law.log law.names s' ⊎ IsHeld s')
      → Locked (record { words = words; homes = homes; views = set s.views id w })
  unmoved words homes w same parts own place = record {
    log = law.log;
    names = law.names;
    few = law.few;
    place = place;
    fits = λ by u there. ⊎_elim (λ (here : (by ≡ id) × (w ≡ u)). subst (Fits law.log law.names) here.1 own)
        (λ (else : (by ≢ id) × (get_elem? s.views by ≡ some u)). law.fits by u else.1) (at_set s.views id by w u there);
    once = λ name. omega (arith, total_set (weight name) s.views id v w at, law.once name, same name);
    below = λ name above. omega (arith, total_set (weight name) s.views id v w at, law.below name above, same name);
    not_given = law.not_given;
    all = λ name less. omega (arith, total_set (weight name) s.views id v w at, law.all name less, same name);
    whole = omega (arith, total_set (λ v. v.parts) s.views id v w at, law.whole, parts);
  }

module _ {T : Type 0} (s : State (Option (Pair T)) View) (law : Locked s) (id : ℕ) (pass : PassState) (at : get_elem? s.views id ≡ some (idle pass)) (f : ℕ → ℕ) (busy : (n : ℕ) → 0 < f n) where
  abbrev Goes : Type 0
  Goes = (w : View) × (a : Act (Option (Pair T))) × Valid s.homes [] a × Locked (stepped s 0 (f (slice_index s.words 0)) id [] w a)
      × taken (step 0 0 0 0 none) (idle pass, []) (slice_index s.words 0) (w, carried_after [] a)

  -- the lock was free: the seat holds it
  wins : IsFree law.log law.names s → Goes
  wins free =
      let n : ℕ = slice_index s.words 0 in
      let w : View = holder_of (idle pass) law.log.history law.names in
      let pair : Option (Pair T) = Some (pair_of law.log law.names) in
      let fits = law.fits id (idle pass) at in
      let zero_found : n ≡ 0 = ap (λ ws. slice_index ws 0) free.words in
      let moved : total holders (set s.views id w) + 0 ≡ total holders s.views + 1 = total_set holders s.views id (idle pass) w at in (
        w,
        takes 0 pair,
        ap (λ (hs : List (maybe.Option (Option (Pair T)))). get_elem? hs 0) free.homes,
        unmoved s law id (idle pass) at (slice_set s.words 0 (f n)) (slice_set s.homes 0 none) w (λ name. refl) refl
            (record { capacity = fits.capacity; opening = fits.opening; begins = fits.begins; records = fits.records; noted = omega arith; stage = (refl, refl); part = fits.part })
            (inr (record {
              word = f n;
              words = ap (λ ws. slice_set ws 0 (f n)) free.words;
              taken = busy n;
              homes = ap (λ (hs : List (maybe.Option (Option (Pair T)))). slice_set hs 0 none) free.homes;
              one = omega (arith, moved, free.nobody);
            })),
        (
          (λ _. record { log = law.log; names = law.names; view = refl; hand = refl; found = found_at s law id (idle pass) at }),
          λ (other : n ≢ 0). absurd (other zero_found),
        ),
      )

  -- the lock was held: it stays so
  waits : IsHeld s → Goes
  waits held =
      let n : ℕ = slice_index s.words 0 in
      let found : n ≡ held.word = ap (λ ws. slice_index ws 0) held.words in
      let same : total holders (set s.views id (idle pass)) + 0 ≡ total holders s.views + 0 = total_set holders s.views id (idle pass) (idle pass) at in (
        idle pass,
        keeps,
        tt,
        unmoved s law id (idle pass) at (slice_set s.words 0 (f n)) s.homes (idle pass) (λ name. refl) refl (law.fits id (idle pass) at)
            (inr (record {
              word = f n;
              words = ap (λ ws. slice_set ws 0 (f n)) held.words;
              taken = busy n;
              homes = held.homes;
              one = omega (arith, same, held.one);
            })),
        ((λ (none_found : n ≡ 0). let above = held.taken in absurd (omega arith)), λ _. refl),
      )

-- A step that makes a word that is not 0 takes the lock where it finds 0, and changes nothing else.
pub takes_lock : {T : Type 0} (slots id : ℕ) (pass : PassState) (f : ℕ → ℕ) → ((n : ℕ) → 0 < f n)
    → Allows (Locked {T = T}) slots id (idle pass, []) 0 f (taken {T = T} (step 0 0 0 0 none) (idle pass, []))
takes_lock slots id pass f busy s law many at small = ⊎_elim (wins s law id pass at f busy) (waits s law id pass at f busy) law.place

-- the same at the seat of a pass
pub takes_at : {T : Type 0} (slots id : ℕ) (table : TableId) (seat : LockSeat T) → AtRest table seat → (f : ℕ → ℕ) → ((n : ℕ) → 0 < f n)
    → Allows (Locked {T = T}) slots id seat 0 f (taken {T = T} (step 0 0 0 0 none) seat)
takes_at {T} slots id table seat rest f busy =
    subst (λ (m : LockSeat T). Allows (Locked {T = T}) slots id m 0 f (taken {T = T} (step 0 0 0 0 none) m)) (sym rest) (takes_lock slots id (pass_of table seat.0) f busy)

-- a word that was 0 and becomes 1, or stays, is not 0
pub one_or_more : (n : ℕ) → 0 < either (n == 0) 1 n
one_or_more n = exchanged n 0 1 (λ (k : ℕ). 0 < k) (λ hit. omega arith) (λ miss. omega arith)

-- the same at a seat that a lost try left as it was
pub takes_again : {T : Type 0} (slots id : ℕ) (table : TableId) (seat now : LockSeat T) → now ≡ seat → AtRest table seat → (f : ℕ → ℕ) → ((n : ℕ) → 0 < f n)
    → Allows (Locked {T = T}) slots id now 0 f (taken {T = T} (step 0 0 0 0 none) now)
takes_again {T} slots id table seat now same rest f busy =
    takes_at {T = T} slots id table now (subst (λ (m : LockSeat T). AtRest table m) (sym same) rest) f busy
