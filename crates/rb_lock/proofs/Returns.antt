-- The step that gives the lock back keeps the rule.
use Rattle.std.proofs.Common.{◌≡◌, ◌≢◌, ℕ, ◌+◌, ◌<◌, ◌≤◌, ◌==◌, List, [], ◌∷◌, ◌++◌, set, refl, ap, sym, subst, ◌∙◌, arith, eq-eqb, ⊎_elim, inl, lt_of_not-le}
use mathlib.Core.Logic.{dite}
use native.Mathlib.Decide.{dec_le}
use Rattle.std.specs.Prelude.{Option, Some, slice_set}
use mathlib.Core.Option as maybe
use mathlib.Core.Option.{none, some}
use lib.ListN.{get_elem?}
use Rattle.atomic_table.specs.Table.{State, step, stepped, gives, Allows}
use Rattle.atomic_table.proofs.Lists.{at_set}
use Rattle.rb_queue.specs.Counts.{events_of}
use Rattle.rb_queue.specs.declared.event.Event.{Event}
use Rattle.rb_kept.specs.Log.{Log}
use Rattle.rb_lock.specs.Parts.{least_part}
use Rattle.rb_lock.specs.Records.{bit, times_in, names_of}
use Rattle.rb_lock.specs.Passes.{PassState}
use Rattle.rb_lock.specs.Views.{idle, records_of, weight, holders, is_held, drawn, drawn_part, total, holder_of, caught_up}
use Rattle.rb_lock.specs.Rule.{AtStage, IsThere, Fits, Locked, IsFree, IsHeld, pair_of}
use Rattle.rb_lock.specs.LockSteps.{LockSeat, MayGive, MayDraw, Grown, gave, drew}
use Rattle.rb_lock.specs.declared.pair.Pair.{Pair}
use Rattle.rb_lock.specs.declared.pair.TheConstants.{MOST_NAMES}
use Rattle.rb_lock.specs.declared.stage.Stage.{Stage}
use Rattle.rb_lock.specs.declared.stage.Stage.TheVariants.{Idle, Holds, Drew, Meets, Gone}
use Rattle.rb_lock.specs.declared.view.View.{View}
use Rattle.rb_lock.proofs.Sums.{total_set, total_at, total_two, bit_same, bit_other, bit_small, bit_apart, times_in-append}
use Rattle.rb_lock.proofs.Beginnings.{prefix_self}
use Rattle.rb_lock.proofs.Halvings.{halved, part_stays}
use Rattle.rb_lock.proofs.LongerHistories.{grown_none, others_stay, begins_stay, records_stay}

-- what the seat may be about to do, where the names go on from `names` to `after`
pub record IsNext (names after : ℕ) (log : Log) (next : Stage) : Type 0 where
  pub more : names ≤ after
  pub few : after ≤ MOST_NAMES
  pub free : is_held next ≡ 0
  pub once : (n : ℕ) → times_in n (drawn next) ≤ 1
  pub old : (n : ℕ) → n < names → times_in n (drawn next) ≡ 0
  pub below : (n : ℕ) → after ≤ n → times_in n (drawn next) ≡ 0
  pub new : (n : ℕ) → names ≤ n → n < after → 1 ≤ times_in n (drawn next)
  pub part : least_part after + drawn_part next ≤ least_part names
  pub there : IsThere next
  pub stage : ((n : ℕ) → names ≤ n → events_of log.history n ≡ []) → AtStage log after after next

-- the view of the seat that holds the lock
abbrev pub before : PassState → List Event → ℕ → View
before pass found names = holder_of (idle pass) found names

-- and once it has given it back
abbrev pub after_it : PassState → List Event → ℕ → ℕ → List Event → Stage → View
after_it pass found names after new next = record (caught_up (before pass found names) new next) { noted = after }

module _ {T : Type 0} (pass : PassState) (found new : Log) (names after : ℕ) (next : Stage)
    (capacity : new.capacity ≡ pass.capacity) (opening : new.opening ≡ pass.opening)
    (grown : Grown pass.name found.history new.history) (goes : IsNext names after new next)
    (s : State (Option (Pair T)) View) (law : Locked s) (id : ℕ) (at : get_elem? s.views id ≡ some (before pass found.history names)) where
  own : Fits law.log law.names (before pass found.history names)
  own = law.fits id (before pass found.history names) at

  -- the log and the number that the seat found are still the current ones
  grown_now : Grown pass.name law.log.history new.history
  grown_now = subst (λ (h : List Event). Grown pass.name h new.history) own.stage.0 grown

  -- a view's name stands in it
  own_once : 1 ≤ weight pass.name (before pass found.history names)
  own_once = omega (arith, bit_same pass.name)

  own_below : pass.name < law.names
  own_below = dite (dec_le law.names pass.name)
      (λ above. absurd (omega (arith, law.below pass.name above, total_at (weight pass.name) s.views id (before pass found.history names) at, own_once)))
      (λ below. lt_of_not-le below)

  -- names of other views are others
  apart : (by : ℕ) (u : View) → by ≢ id → get_elem? s.views by ≡ some u → weight pass.name u ≡ 0
  apart by u other there =
      omega (arith, total_two (weight pass.name) s.views by id u (before pass found.history names) other there at, law.once pass.name, own_once)

  -- the lock is held, and by this seat alone
  is_out : IsHeld s
  is_out = ⊎_elim (λ (free : IsFree law.log law.names s). absurd (omega (arith, free.nobody, total_at holders s.views id (before pass found.history names) at))) (λ (held : IsHeld s). held) law.place

  not_held : (by : ℕ) (u : View) → by ≢ id → get_elem? s.views by ≡ some u → holders u ≡ 0
  not_held by u other there =
      omega (arith, total_two holders s.views by id u (before pass found.history names) other there at, is_out.one)

  -- the run is the same
  same_room : law.log.capacity ≡ new.capacity
  same_room = sym (own.capacity tt) ∙ sym capacity

  same_start : law.log.opening ≡ new.opening
  same_start = sym (own.opening tt) ∙ sym opening

  -- what another seat is about to do still fits
  stage_stays : (noted : ℕ) (stage : Stage) → is_held stage ≡ 0 → times_in pass.name (drawn stage) ≡ 0
      → AtStage law.log law.names noted stage → AtStage new after noted stage
  stage_stays noted Idle quiet other fits = tt
  stage_stays noted (Holds h) quiet other fits = absurd (omega arith)
  stage_stays noted (Drew name) quiet other fits =
      let apart_from : bit (name == pass.name) ≡ 0 = omega arith in
      let less : name < law.names = fits.0 in
      let names_is : names ≡ law.names = own.stage.1 in
      (omega (arith, goes.more, names_is, less), others_stay pass.name law.log.history new.history grown_now name (bit_other name pass.name apart_from) ∙ fits.1)
  stage_stays noted (Meets one two room start) quiet other fits = (
    begins_stay pass.name law.log.history new.history grown_now one fits.0,
    begins_stay pass.name law.log.history new.history grown_now two fits.1,
    fits.2 ∙ same_room,
    fits.3 ∙ same_start,
  )
  stage_stays noted Gone quiet other fits = tt

  -- the views of other seats still fit
  fits_stay : (by : ℕ) (u : View) → by ≢ id → get_elem? s.views by ≡ some u → Fits new after u
  fits_stay by u other there =
      let fits = law.fits by u there in
      let away : times_in pass.name (names_of (records_of u) ++ drawn u.stage) ≡ 0 = apart by u other there in
      let split = times_in-append pass.name (names_of (records_of u)) (drawn u.stage) in
      record {
        capacity = λ live. fits.capacity live ∙ same_room;
        opening = λ live. fits.opening live ∙ same_start;
        begins = begins_stay pass.name law.log.history new.history grown_now u.seen fits.begins;
        records = records_stay pass.name law.log.history new.history grown_now (records_of u) (omega (arith, split, away)) fits.records;
        noted = omega (arith, fits.noted, goes.more, own.stage.1);
        stage = stage_stays u.noted u.stage (not_held by u other there) (omega (arith, split, away)) fits.stage;
        part = part_stays u.live u law.names after (omega (arith, goes.more, own.stage.1)) fits.part;
      }

  -- no event has a name that was not given
  strangers_stay : (n : ℕ) → law.names ≤ n → events_of new.history n ≡ []
  strangers_stay n above =
      let less = own_below in
      let other : n ≢ pass.name = λ e. omega arith in
      others_stay pass.name law.log.history new.history grown_now n other ∙ law.not_given n above

  names_is : names ≡ law.names
  names_is = own.stage.1

  -- the view of the seat itself fits
  own_fits : Fits new after (after_it pass found.history names after new.history next)
  own_fits =
      let folded_none : times_in pass.name (names_of pass.folded) ≡ 0 =
      omega (arith, law.once pass.name, total_at (weight pass.name) s.views id (before pass found.history names) at, bit_same pass.name, times_in-append pass.name (names_of pass.folded) []) in
      record {
        capacity = λ live. sym capacity;
        opening = λ live. sym opening;
        begins = prefix_self new.history;
        records = (
          record { begins = prefix_self new.history; known = refl; all = refl },
          records_stay pass.name law.log.history new.history grown_now pass.folded folded_none own.records.1,
        );
        noted = omega arith;
        stage = (goes.stage (λ n above. strangers_stay n (subst (λ (m : ℕ). m ≤ n) names_is above)));
        part = omega (arith, goes.part, own.part, ap least_part names_is);
      }

  -- how often a name stands in the view now
  weighs : (n : ℕ) → weight n (after_it pass found.history names after new.history next) ≡ weight n (before pass found.history names) + times_in n (drawn next)
  weighs n = omega (arith, times_in-append n (names_of pass.folded) [], times_in-append n (names_of pass.folded) (drawn next))

  now_total : (n : ℕ) → total (weight n) (set s.views id (after_it pass found.history names after new.history next)) ≡ total (weight n) s.views + times_in n (drawn next)
  now_total n = omega (arith, total_set (weight n) s.views id (before pass found.history names) (after_it pass found.history names after new.history next) at, weighs n)

  now_held : total holders (set s.views id (after_it pass found.history names after new.history next)) ≡ 0
  now_held = omega (arith, total_set holders s.views id (before pass found.history names) (after_it pass found.history names after new.history next) at, is_out.one, goes.free)

  now_once : (n : ℕ) → total (weight n) (set s.views id (after_it pass found.history names after new.history next)) ≤ 1
  now_once n = dite (dec_le names n)
      (λ above. omega (arith, now_total n, law.below n (subst (λ (m : ℕ). m ≤ n) names_is above), goes.once n))
      (λ below. omega (arith, now_total n, law.once n, goes.old n (lt_of_not-le below)))

  now_below : (n : ℕ) → after ≤ n → total (weight n) (set s.views id (after_it pass found.history names after new.history next)) ≡ 0
  now_below n above = omega (arith, now_total n, law.below n, goes.below n above, goes.more, names_is)

  now_all : (n : ℕ) → n < after → 1 ≤ total (weight n) (set s.views id (after_it pass found.history names after new.history next))
  now_all n less = dite (dec_le names n)
      (λ above. omega (arith, now_total n, goes.new n above less))
      (λ below. omega (arith, now_total n, law.all n (omega (arith, names_is, lt_of_not-le below))))

  -- the rule holds again
  pub given : Locked (stepped s 0 0 id ((0, Some (pair_of new after)) ∷ []) (after_it pass found.history names after new.history next) gives)
  given = record {
    log = new;
    names = after;
    few = goes.few;
    place = inl (record {
      words = ap (λ ws. slice_set ws 0 0) is_out.words;
      homes = ap (λ (hs : List (maybe.Option (Option (Pair T)))). slice_set hs 0 (some (Some (pair_of new after)))) is_out.homes;
      nobody = now_held;
    });
    fits = λ by u there. ⊎_elim (λ (here : (by ≡ id) × (after_it pass found.history names after new.history next ≡ u)). subst (Fits new after) here.1 own_fits)
        (λ (else : (by ≢ id) × (get_elem? s.views by ≡ some u)). fits_stay by u else.0 else.1) (at_set s.views id by (after_it pass found.history names after new.history next) u there);
    once = now_once;
    below = now_below;
    all = now_all;
    whole = omega (arith, total_set (λ v. v.parts) s.views id (before pass found.history names) (after_it pass found.history names after new.history next) at, law.whole);
    not_given = λ n above. strangers_stay n (omega (arith, goes.more, names_is, above));
  }

-- a seat that is about to do nothing
pub next_idle : (names : ℕ) (log : Log) → names ≤ MOST_NAMES → IsNext names names log Idle
next_idle names log few = record {
  more = omega arith;
  few = few;
  free = refl;
  once = λ n. omega arith;
  old = λ n less. refl;
  below = λ n above. refl;
  new = λ n above less. absurd (omega arith);
  part = omega arith;
  there = tt;
  stage = λ not_given. tt;
}

-- a seat that has drawn the next name
pub next_drew : (names : ℕ) (log : Log) → names < MOST_NAMES → IsNext names (names + 1) log (Drew names)
next_drew names log few = record {
  more = omega arith;
  few = omega (arith, few);
  free = refl;
  once = λ n. omega (arith, bit_small (names == n));
  old = λ n less. omega (arith, bit_apart names n (λ e. omega arith));
  below = λ n above. omega (arith, bit_apart names n (λ e. omega arith));
  new = λ n above less. let here : bit (names == n) ≡ 1 = ap bit (eq-eqb names n (omega arith)) in omega (arith, here);
  part = omega (arith, halved names few);
  there = tt;
  stage = λ not_given. (omega arith, not_given names (omega arith));
}

-- the lock is given back, at any history that only this pass's events made longer
pub gives_lock : {T : Type 0} (slots id : ℕ) (pass : PassState) (found new : Log) (names : ℕ) → new.capacity ≡ pass.capacity → new.opening ≡ pass.opening
    → Grown pass.name found.history new.history → names ≤ MOST_NAMES
    → Allows (Locked {T = T}) slots id (before pass found.history names, (0, Some (pair_of new names)) ∷ []) 0 (λ _. 0)
    (gave {T = T} (step 0 0 0 0 none) (before pass found.history names, (0, Some (pair_of new names)) ∷ []))
gives_lock slots id pass found new names capacity opening grown few s law many at small = (
  after_it pass found.history names names new.history Idle,
  gives,
  tt,
  given pass found new names names Idle capacity opening grown (next_idle names new few) s law id at,
  refl,
)

-- and with the next name drawn
pub draws_name : {T : Type 0} (slots id : ℕ) (pass : PassState) (found : Log) (names : ℕ) → found.capacity ≡ pass.capacity → found.opening ≡ pass.opening → names < MOST_NAMES
    → Allows (Locked {T = T}) slots id (before pass found.history names, (0, Some (pair_of found (names + 1))) ∷ []) 0 (λ _. 0)
    (drew {T = T} (step 0 0 0 0 none) (before pass found.history names, (0, Some (pair_of found (names + 1))) ∷ []))
draws_name slots id pass found names capacity opening few s law many at small = (
  after_it pass found.history names (names + 1) found.history (Drew names),
  gives,
  tt,
  given pass found found names (names + 1) (Drew names) capacity opening (grown_none pass.name found.history) (next_drew names found few) s law id at,
  refl,
)

-- the same at a seat that may give it back
pub gives_at : {T : Type 0} (slots id : ℕ) (seat : LockSeat T) → MayGive seat → Allows (Locked {T = T}) slots id seat 0 (λ _. 0) (gave {T = T} (step 0 0 0 0 none) seat)
gives_at {T} slots id seat may =
    subst (λ (m : LockSeat T). Allows (Locked {T = T}) slots id m 0 (λ _. 0) (gave {T = T} (step 0 0 0 0 none) m)) (sym may.is)
    (gives_lock slots id may.pass may.found may.new may.names may.capacity may.opening may.grown may.few)

pub draws_at : {T : Type 0} (slots id : ℕ) (seat : LockSeat T) → MayDraw seat → Allows (Locked {T = T}) slots id seat 0 (λ _. 0) (drew {T = T} (step 0 0 0 0 none) seat)
draws_at {T} slots id seat may =
    subst (λ (m : LockSeat T). Allows (Locked {T = T}) slots id m 0 (λ _. 0) (drew {T = T} (step 0 0 0 0 none) m)) (sym may.is)
    (draws_name slots id may.pass may.found may.names may.capacity may.opening may.few)
