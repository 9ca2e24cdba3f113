-- Jobs that stand apart: of each origin one element is open, and each id has one place. Said without the queue.
use Rattle.std.proofs.Common.{◌≡◌, ◌≢◌, ℕ, ◌+◌, ◌<◌, ◌≤◌, ◌⊎◌, inl, inr, List, [], ◌∷◌, ◌++◌, refl, sym, ap, subst, ◌∙◌, arith, Bool, true, false, cond, Option, Some, eq-eqb, ne_eqb}
use Rattle.std.proofs.lemmas.Option.{same_Some}
use Rattle.std.specs.Prelude.{nat_eq}
use Rattle.rb_delayed.specs.declared.element.Element.{Element}
use Rattle.rb_queue.proofs.Options.{same_or_not}
use Rattle.rb_jobs.specs.HeldIds.{AreHeldOnce}
use Rattle.rb_session.proofs.GivenJobs.{times_held-append}
use Rattle.rb_jobs.specs.Among.{IsAmong}
use Rattle.rb_jobs.specs.Attempts.{HasNext}
use Rattle.rb_jobs.specs.Places.{Place, waits, held_by}
use Rattle.rb_jobs.proofs.Lists.{among_left, among_right, among_last, among_push, among_cases, times_of, times_among, has_id, has_among, among_has}

-- These elements came in, these were given, these wait, the next id is this, and the seats hold these.
pub record Apart (came given : List Element) (Waits : Element → Type 0) (next_id : ℕ) (hands : ℕ → List Element) : Type 0 where
  -- of each origin the latest element
  pub latest : ℕ → Option Element
  -- where the element of each id is, if it is anywhere
  pub place : ℕ → Place
  pub real : (origin : ℕ) (last : Element) → latest origin ≡ Some last → IsAmong last came × (last.origin ≡ origin)
  pub begun : (element : Element) → IsAmong element came → (element.origin < next_id) × (element.id < next_id)
  pub ranked : (element : Element) → IsAmong element came
      → (last : Element) × (latest element.origin ≡ Some last) × (element.attempt ≤ last.attempt)
  pub followed : (element : Element) → IsAmong element came
      → (latest element.origin ≡ Some element) ⊎ HasNext came element
  pub waiting : (element : Element) → Waits element
      → IsAmong element came × (latest element.origin ≡ Some element) × (place element.id ≡ waits)
  pub held : (seat : ℕ) (element : Element) → IsAmong element (hands seat)
      → IsAmong element given × (latest element.origin ≡ Some element) × (place element.id ≡ held_by seat)
  pub once : (seat : ℕ) → AreHeldOnce (hands seat)
  pub gave : (element : Element) → IsAmong element given → IsAmong element came

-- a table with another value at one number
abbrev pub with_at : {A : Type 0} → (ℕ → A) → ℕ → A → ℕ → A
with_at table number value asked = cond (nat_eq asked number) value (table asked)

pub with_same : {A : Type 0} (table : ℕ → A) (number : ℕ) (value : A) (asked : ℕ) → asked ≡ number
    → with_at table number value asked ≡ value
with_same table number value asked same = ap (λ b. cond b value (table asked)) (eq-eqb asked number same)

pub with_other : {A : Type 0} (table : ℕ → A) (number : ℕ) (value : A) (asked : ℕ) → asked ≢ number
    → with_at table number value asked ≡ table asked
with_other table number value asked differ = ap (λ b. cond b value (table asked)) (ne_eqb asked number differ)

-- the queue is no seat, and two seats are two places
abbrev seat_or : ℕ → Place → ℕ
seat_or other waits = other
seat_or other (held_by seat) = seat

pub no_seat : (seat : ℕ) → waits ≢ held_by seat
no_seat seat same = absurd (omega (arith, ap (seat_or (seat + 1)) same))

pub same_seat : (one other : ℕ) → held_by one ≡ held_by other → one ≡ other
same_seat one other same = ap (seat_or one) same

-- a next attempt among these is among more
pub next_more : (came more : List Element) (element : Element) → HasNext came element → HasNext (came ++ more) element
next_more came more element has = record {
  next = has.next;
  among = among_left has.next came more has.among;
  origin = has.origin;
  attempt = has.attempt;
}

module _ (came given : List Element) (Waits : Element → Type 0) (next_id : ℕ) (hands : ℕ → List Element)
    (apart : Apart came given Waits next_id hands) where
  -- What came in of the origin of an element before it is an earlier attempt, is followed, and is nowhere.
  pub record IsPast (new : Element) (hands' : ℕ → List Element) (element : Element) : Type 0 where
    pub earlier : element.attempt < new.attempt
    pub followed : HasNext (came ++ new ∷ []) element
    pub not_waiting : ¬ Waits element
    pub not_held : (seat : ℕ) → ¬ IsAmong element (hands' seat)

  -- an element comes in
  pub comes : (new : Element) (Waits' : Element → Type 0) (hands' : ℕ → List Element) → new.id ≡ next_id
      → new.origin < next_id + 1 → ((element : Element) → Waits' element → Waits element ⊎ (element ≡ new))
      → ((seat : ℕ) (element : Element) → IsAmong element (hands' seat) → IsAmong element (hands seat))
      → ((seat : ℕ) → AreHeldOnce (hands' seat))
      → ((element : Element) → IsAmong element came → element.origin ≡ new.origin → IsPast new hands' element)
      → Apart (came ++ new ∷ []) given Waits' (next_id + 1) hands'
  comes new Waits' hands' named origin wait hold once past = record {
    latest = with_at apart.latest new.origin (Some new);
    place = with_at apart.place new.id waits;
    real = λ at last is. real' at last is (same_or_not at new.origin);
    begun = λ element among. begun' element (among_push element came new among);
    ranked = λ element among. ranked' element (among_push element came new among) (same_or_not element.origin new.origin);
    followed = λ element among.
        followed' element (among_push element came new among) (same_or_not element.origin new.origin);
    waiting = λ element waits'. waiting' element (wait element waits') (same_or_not element.origin new.origin);
    held = λ seat element among. held' seat element among (same_or_not element.origin new.origin);
    once = once;
    gave = λ element among. among_left element came (new ∷ []) (apart.gave element among);
  }
    where
      old_place : (element : Element) → IsAmong element came → with_at apart.place new.id waits element.id ≡ apart.place element.id
      old_place element among =
          with_other apart.place new.id waits element.id (λ same. omega (arith, (apart.begun element among).1, named, same))

      real' : (at : ℕ) (last : Element) → with_at apart.latest new.origin (Some new) at ≡ Some last
          → (at ≡ new.origin) ⊎ (at ≢ new.origin) → IsAmong last (came ++ new ∷ []) × (last.origin ≡ at)
      real' at last is (inl same) =
          let it : new ≡ last = same_Some new last (sym (with_same apart.latest new.origin (Some new) at same) ∙ is) in (
            subst (λ e. IsAmong e (came ++ new ∷ [])) it (among_last new came),
            ap (λ (e : Element). e.origin) (sym it) ∙ sym same,
          )
      real' at last is (inr differ) =
          let (among, named) =
          apart.real at last (sym (with_other apart.latest new.origin (Some new) at differ) ∙ is) in
          (among_left last came (new ∷ []) among, named)

      begun' : (element : Element) → IsAmong element came ⊎ (element ≡ new)
          → (element.origin < next_id + 1) × (element.id < next_id + 1)
      begun' element (inl old) = (omega (arith, (apart.begun element old).0), omega (arith, (apart.begun element old).1))
      begun' element (inr is) =
          subst (λ (e : Element). (e.origin < next_id + 1) × (e.id < next_id + 1)) (sym is) (origin, omega (arith, named))

      is_latest : (element : Element) → element ≡ new
          → with_at apart.latest new.origin (Some new) element.origin ≡ Some element
      is_latest element is =
          with_same apart.latest new.origin (Some new) element.origin (ap (λ (e : Element). e.origin) is) ∙ ap Some (sym is)

      ranked' : (element : Element) → IsAmong element came ⊎ (element ≡ new)
          → (element.origin ≡ new.origin) ⊎ (element.origin ≢ new.origin)
          → (last : Element) × (with_at apart.latest new.origin (Some new) element.origin ≡ Some last)
          × (element.attempt ≤ last.attempt)
      ranked' element (inl old) (inl same) = (
        new,
        with_same apart.latest new.origin (Some new) element.origin same,
        omega (arith, (past element old same).earlier),
      )
      ranked' element (inl old) (inr differ) =
          let (last, is, least) = apart.ranked element old in
          (last, with_other apart.latest new.origin (Some new) element.origin differ ∙ is, least)
      ranked' element (inr is) either = (element, is_latest element is, omega arith)

      followed' : (element : Element) → IsAmong element came ⊎ (element ≡ new)
          → (element.origin ≡ new.origin) ⊎ (element.origin ≢ new.origin)
          → (with_at apart.latest new.origin (Some new) element.origin ≡ Some element) ⊎ HasNext (came ++ new ∷ []) element
      followed' element (inl old) (inl same) = inr (past element old same).followed
      followed' element (inl old) (inr differ) = elim (apart.followed element old) [
        | inl last ↦ inl (with_other apart.latest new.origin (Some new) element.origin differ ∙ last)
        | inr next ↦ inr (next_more came (new ∷ []) element next)
      ]
      followed' element (inr is) either = inl (is_latest element is)

      waiting' : (element : Element) → Waits element ⊎ (element ≡ new)
          → (element.origin ≡ new.origin) ⊎ (element.origin ≢ new.origin)
          → IsAmong element (came ++ new ∷ [])
          × (with_at apart.latest new.origin (Some new) element.origin ≡ Some element)
          × (with_at apart.place new.id waits element.id ≡ waits)
      waiting' element (inl old) (inl same) =
          absurd ((past element (apart.waiting element old).0 same).not_waiting old)
      waiting' element (inl old) (inr differ) =
          let (among, last, is) = apart.waiting element old in (
            among_left element came (new ∷ []) among,
            with_other apart.latest new.origin (Some new) element.origin differ ∙ last,
            old_place element among ∙ is,
          )
      waiting' element (inr is) either = (
        subst (λ e. IsAmong e (came ++ new ∷ [])) (sym is) (among_last new came),
        is_latest element is,
        with_same apart.place new.id waits element.id (ap (λ (e : Element). e.id) is),
      )

      held' : (seat : ℕ) (element : Element) → IsAmong element (hands' seat)
          → (element.origin ≡ new.origin) ⊎ (element.origin ≢ new.origin)
          → IsAmong element given × (with_at apart.latest new.origin (Some new) element.origin ≡ Some element)
          × (with_at apart.place new.id waits element.id ≡ held_by seat)
      held' seat element among (inl same) =
          absurd ((past element (apart.gave element (apart.held seat element (hold seat element among)).0) same).not_held
          seat among)
      held' seat element among (inr differ) =
          let (gave, last, is) = apart.held seat element (hold seat element among) in (
            gave,
            with_other apart.latest new.origin (Some new) element.origin differ ∙ last,
            old_place element (apart.gave element gave) ∙ is,
          )

  -- these elements, which wait, are given to a seat
  pub gives : (seat : ℕ) (elements : List Element) (Waits' : Element → Type 0) (hands' : ℕ → List Element)
      → ((element : Element) → IsAmong element elements → Waits element)
      → ((element : Element) → Waits' element → Waits element × (has_id element.id elements ≡ false))
      → ((at : ℕ) (element : Element) → IsAmong element (hands' at)
      → IsAmong element (hands at) ⊎ ((at ≡ seat) × IsAmong element elements))
      → ((at : ℕ) → AreHeldOnce (hands' at)) → Apart came (given ++ elements) Waits' next_id hands'
  gives seat elements Waits' hands' waited wait hold once = record {
    latest = apart.latest;
    place = λ id. cond (has_id id elements) (held_by seat) (apart.place id);
    real = apart.real;
    begun = apart.begun;
    ranked = apart.ranked;
    followed = apart.followed;
    waiting = λ element waits'.
        let (old, other) = wait element waits' in
        let (among, last, is) = apart.waiting element old in
        (among, last, ap (λ b. cond b (held_by seat) (apart.place element.id)) other ∙ is);
    held = λ at element among. held' at element (hold at element among);
    once = once;
    gave = λ element among. gave' element (among_cases element given elements among);
  }
    where
      gave' : (element : Element) → IsAmong element given ⊎ IsAmong element elements → IsAmong element came
      gave' element (inl old) = apart.gave element old
      gave' element (inr new) = (apart.waiting element (waited element new)).0

      -- what is held does not wait
      apart_from : (at : ℕ) (element : Element) → IsAmong element (hands at) → (test : Bool)
          → has_id element.id elements ≡ test → test ≡ false
      apart_from at element old true has =
          let (other, among, same) = among_has element.id elements has in
          let there = (apart.waiting other (waited other among)).2 in
          let here = (apart.held at element old).2 in
          absurd (no_seat at (sym there ∙ ap apart.place same ∙ here))
      apart_from at element old false has = refl

      held' : (at : ℕ) (element : Element) → IsAmong element (hands at) ⊎ ((at ≡ seat) × IsAmong element elements)
          → IsAmong element (given ++ elements) × (apart.latest element.origin ≡ Some element)
          × (cond (has_id element.id elements) (held_by seat) (apart.place element.id) ≡ held_by at)
      held' at element (inl old) =
          let (gave, last, is) = apart.held at element old in
          let other : has_id element.id elements ≡ false = apart_from at element old (has_id element.id elements) refl in (
            among_left element given elements gave,
            last,
            ap (λ b. cond b (held_by seat) (apart.place element.id)) other ∙ is,
          )
      held' at element (inr (same, new)) = (
        among_right element given elements new,
        (apart.waiting element (waited element new)).1,
        ap (λ b. cond b (held_by seat) (apart.place element.id)) (has_among elements element new) ∙ ap held_by (sym same),
      )

  -- what a seat holds and what waits have no id in common
  pub once_both : (seat : ℕ) (kept elements : List Element) → AreHeldOnce kept → AreHeldOnce elements
      → ((element : Element) → IsAmong element kept → IsAmong element (hands seat))
      → ((element : Element) → IsAmong element elements → Waits element) → AreHeldOnce (kept ++ elements)
  once_both seat kept elements one other hold waited id =
      by_times (same_or_not (times_of id elements) 0) (same_or_not (times_of id kept) 0)
    where
      by_times : (times_of id elements ≡ 0) ⊎ (times_of id elements ≢ 0)
          → (times_of id kept ≡ 0) ⊎ (times_of id kept ≢ 0) → times_of id (kept ++ elements) ≤ 1
      by_times (inl none) either = omega (arith, one id, times_held-append id kept elements, none)
      by_times (inr more) (inl none) = omega (arith, other id, times_held-append id kept elements, none)
      by_times (inr more) (inr there) =
          let (x, among, x_is) = times_among id kept (omega (arith, there)) in
          let (y, within, y_is) = times_among id elements (omega (arith, more)) in
          let here = (apart.held seat x (hold x among)).2 in
          let waits' = (apart.waiting y (waited y within)).2 in
          absurd (no_seat seat (sym waits' ∙ ap apart.place (y_is ∙ sym x_is) ∙ here))
