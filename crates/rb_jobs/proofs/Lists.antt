-- Elements among others, how often an id is theirs, and some of them.
use Rattle.std.proofs.Common.{◌≡◌, ℕ, zero, suc, ◌+◌, ◌<◌, ◌≤◌, ◌⊎◌, inl, inr, List, [], ◌∷◌, ◌++◌, refl, sym, ap, ◌∙◌, arith, remove, Bool, true, false, cond, Some}
use Rattle.std.proofs.lemmas.Bool.Decides.{nat_tests}
use Rattle.std.proofs.lemmas.Option.{same_Some}
use Rattle.std.specs.Prelude.{slice_get, nat_eq, ◌==◌}
use Rattle.std.specs.List.{find, list_any}
use Rattle.rb_delayed.specs.declared.element.Element.{Element}
use Rattle.rb_queue.specs.Leaving.{times}
use Rattle.rb_queue.specs.Opening.{ids_of}
use Rattle.rb_queue.proofs.Effects.{bit, times_cons}
use Rattle.rb_jobs.specs.HeldIds.{AreHeldOnce}
use Rattle.rb_jobs.specs.RunEvents.{AreSomeOf}
use Rattle.rb_jobs.specs.Among.{IsAmong}

-- what is among one list is among both
pub among_left : (x : Element) (xs ys : List Element) → IsAmong x xs → IsAmong x (xs ++ ys)
among_left x [] ys among = absurd among
among_left x (y ∷ xs) ys (inl is) = inl is
among_left x (y ∷ xs) ys (inr later) = inr (among_left x xs ys later)

pub among_right : (x : Element) (xs ys : List Element) → IsAmong x ys → IsAmong x (xs ++ ys)
among_right x [] ys among = among
among_right x (y ∷ xs) ys among = inr (among_right x xs ys among)

pub among_cases : (x : Element) (xs ys : List Element) → IsAmong x (xs ++ ys) → IsAmong x xs ⊎ IsAmong x ys
among_cases x [] ys among = inr among
among_cases x (y ∷ xs) ys (inl is) = inl (inl is)
among_cases x (y ∷ xs) ys (inr later) = elim (among_cases x xs ys later) [
  | inl left ↦ inl (inr left)
  | inr right ↦ inr right
]

-- among these and one behind them
pub among_last : (x : Element) (xs : List Element) → IsAmong x (xs ++ x ∷ [])
among_last x xs = among_right x xs (x ∷ []) (inl refl)

pub among_push : (x : Element) (xs : List Element) (last : Element) → IsAmong x (xs ++ last ∷ []) → IsAmong x xs ⊎ (x ≡ last)
among_push x xs last among = elim (among_cases x xs (last ∷ []) among) [
  | inl left ↦ inl left
  | inr right ↦ one right
]
  where
    one : IsAmong x (last ∷ []) → IsAmong x xs ⊎ (x ≡ last)
    one (inl is) = inr is
    one (inr none) = absurd none

-- some of them are among them
pub among_some : (x : Element) (some all : List Element) → AreSomeOf some all → IsAmong x some → IsAmong x all
among_some x [] all are among = absurd among
among_some x (y ∷ some) [] are among = absurd are
among_some x (y ∷ some) (z ∷ all) (inl (same, rest)) (inl is) = inl (is ∙ same)
among_some x (y ∷ some) (z ∷ all) (inl (same, rest)) (inr later) = inr (among_some x some all rest later)
among_some x (y ∷ some) (z ∷ all) (inr rest) among = inr (among_some x (y ∷ some) all rest among)

-- how often an id is theirs
abbrev pub times_of : ℕ → List Element → ℕ
times_of id xs = times id (ids_of xs)

pub times_some : (id : ℕ) (some all : List Element) → AreSomeOf some all → times_of id some ≤ times_of id all
times_some id [] all are = omega arith
times_some id (y ∷ some) [] are = absurd are
times_some id (y ∷ some) (z ∷ all) (inl (same, rest)) =
    omega (
      arith,
      times_some id some all rest,
      times_cons id y.id (ids_of some),
      times_cons id z.id (ids_of all),
      ap (λ (e : Element). bit (nat_eq e.id id)) same,
    )
times_some id (y ∷ some) (z ∷ all) (inr rest) =
    omega (arith, times_some id (y ∷ some) all rest, times_cons id z.id (ids_of all))

pub once_some : (some all : List Element) → AreSomeOf some all → AreHeldOnce all → AreHeldOnce some
once_some some all are once id = omega (arith, once id, times_some id some all are)

-- an element that is among them has its id counted, and an id that is counted is that of one
pub among_times : (x : Element) (xs : List Element) → IsAmong x xs → 0 < times_of x.id xs
among_times x [] among = absurd among
among_times x (y ∷ xs) (inl is) =
    let test : nat_eq y.id x.id ≡ true = grind (arith, nat_tests, ap (λ (e : Element). e.id) is) in
    omega (arith, times_cons x.id y.id (ids_of xs), ap bit test)
among_times x (y ∷ xs) (inr later) = omega (arith, among_times x xs later, times_cons x.id y.id (ids_of xs))

pub times_among : (id : ℕ) (xs : List Element) → 0 < times_of id xs → (x : Element) × IsAmong x xs × (x.id ≡ id)
times_among id [] some = absurd (omega (arith, some))
times_among id (y ∷ xs) some = by_test (times_among id xs) (nat_eq y.id id) refl
  where
    by_test : (0 < times_of id xs → (x : Element) × IsAmong x xs × (x.id ≡ id)) → (test : Bool) → nat_eq y.id id ≡ test
        → (x : Element) × IsAmong x (y ∷ xs) × (x.id ≡ id)
    by_test later true is = (y, inl refl, grind (arith, nat_tests, is))
    by_test later false is =
        let found = later (omega (arith, some, times_cons id y.id (ids_of xs), ap bit is)) in
        (found.0, inr found.1, found.2)

-- an element that is taken out of them
pub times_taken : (id : ℕ) (xs : List Element) (place : ℕ) (x : Element) → slice_get xs place ≡ Some x
    → times_of id xs ≡ bit (nat_eq x.id id) + times_of id (remove xs place)
times_taken id [] place x at = absurd (cc)
times_taken id (y ∷ xs) zero x at =
    omega (arith, times_cons id y.id (ids_of xs), ap (λ (e : Element). bit (nat_eq e.id id)) (same_Some y x at))
times_taken id (y ∷ xs) (suc place) x at =
    omega (
      arith,
      times_taken id xs place x at,
      times_cons id y.id (ids_of xs),
      times_cons id y.id (ids_of (remove xs place)),
    )

pub among_at : (xs : List Element) (place : ℕ) (x : Element) → slice_get xs place ≡ Some x → IsAmong x xs
among_at [] place x at = absurd (cc)
among_at (y ∷ xs) zero x at = inl (sym (same_Some y x at))
among_at (y ∷ xs) (suc place) x at = inr (among_at xs place x at)

pub among_removed : (z : Element) (xs : List Element) (place : ℕ) → IsAmong z (remove xs place) → IsAmong z xs
among_removed z [] zero among = absurd among
among_removed z [] (suc place) among = absurd among
among_removed z (y ∷ xs) zero among = inr among
among_removed z (y ∷ xs) (suc place) (inl is) = inl is
among_removed z (y ∷ xs) (suc place) (inr later) = inr (among_removed z xs place later)

-- of elements that are once there, the one that was taken out is there no more
pub taken_gone : (xs : List Element) (place : ℕ) (x : Element) → slice_get xs place ≡ Some x → AreHeldOnce xs
    → ¬ IsAmong x (remove xs place)
taken_gone xs place x at once among =
    let test : nat_eq x.id x.id ≡ true = grind (arith, nat_tests) in
    absurd (omega (arith, once x.id, times_taken x.id xs place x at, ap bit test, among_times x (remove xs place) among))

pub once_removed : (xs : List Element) (place : ℕ) (x : Element) → slice_get xs place ≡ Some x → AreHeldOnce xs
    → AreHeldOnce (remove xs place)
once_removed xs place x at once id = omega (arith, once id, times_taken id xs place x at)

-- whether one of them has the id
abbrev pub has_id : ℕ → List Element → Bool
has_id id xs = list_any (λ x. x.id == id) xs

pub any_among : (p : Element → Bool) (xs : List Element) → list_any p xs ≡ true
    → (x : Element) × IsAmong x xs × (p x ≡ true)
any_among p [] any = absurd (cc)
any_among p (y ∷ xs) any = by_test (p y) refl any (any_among p xs)
  where
    by_test : (test : Bool) → p y ≡ test → list_any p (y ∷ xs) ≡ true
        → (list_any p xs ≡ true → (x : Element) × IsAmong x xs × (p x ≡ true))
        → (x : Element) × IsAmong x (y ∷ xs) × (p x ≡ true)
    by_test true is any later = (y, inl refl, is)
    by_test false is any later =
        let found = later (grind (arith, is, any)) in (found.0, inr found.1, found.2)

pub among_any : (p : Element → Bool) (xs : List Element) (x : Element) → IsAmong x xs → p x ≡ true → list_any p xs ≡ true
among_any p [] x among holds = absurd among
among_any p (y ∷ xs) x (inl is) holds =
    let here : p y ≡ true = ap p (sym is) ∙ holds in grind (arith, here)
among_any p (y ∷ xs) x (inr later) holds =
    let there = among_any p xs x later holds in grind (arith, there)

pub has_among : (xs : List Element) (x : Element) → IsAmong x xs → has_id x.id xs ≡ true
has_among xs x among = among_any (λ y. y.id == x.id) xs x among (grind (arith, nat_tests))

pub among_has : (id : ℕ) (xs : List Element) → has_id id xs ≡ true → (x : Element) × IsAmong x xs × (x.id ≡ id)
among_has id xs has =
    let found = any_among (λ y. y.id == id) xs has in
    let holds = found.2 in
    (found.0, found.1, grind (arith, nat_tests, holds))

-- the only one of them that passes a test is found
pub find_only : (p : Element → Bool) (xs : List Element) (x : Element) → IsAmong x xs → p x ≡ true
    → ((z : Element) → IsAmong z xs → p z ≡ true → z ≡ x) → find p xs ≡ Some x
find_only p [] x among holds only = absurd among
find_only p (y ∷ xs) x among holds only =
    by_test among (λ there. find_only p xs x there holds (λ z within. only z (inr within))) (p y) refl
  where
    by_test : IsAmong x (y ∷ xs) → (IsAmong x xs → find p xs ≡ Some x) → (test : Bool) → p y ≡ test
        → find p (y ∷ xs) ≡ Some x
    by_test among later true is = ap (λ b. cond b (Some y) (find p xs)) is ∙ ap Some (only y (inl refl) is)
    by_test (inl same) later false is = let here : p x ≡ false = ap p same ∙ is in absurd (cc)
    by_test (inr there) later false is = ap (λ b. cond b (Some y) (find p xs)) is ∙ later there

-- what is found is one of them that passes
pub among_found : (p : Element → Bool) (xs : List Element) (x : Element) → find p xs ≡ Some x
    → IsAmong x xs × (p x ≡ true)
among_found p [] x found = absurd (cc)
among_found p (y ∷ xs) x found = by_test (among_found p xs x) (p y) refl found
  where
    by_test : (find p xs ≡ Some x → IsAmong x xs × (p x ≡ true)) → (test : Bool) → p y ≡ test
        → find p (y ∷ xs) ≡ Some x → IsAmong x (y ∷ xs) × (p x ≡ true)
    by_test later true is found =
        let here : y ≡ x = same_Some y x (sym (ap (λ b. cond b (Some y) (find p xs)) is) ∙ found) in
        (inl (sym here), ap p (sym here) ∙ is)
    by_test later false is found =
        let there = later (sym (ap (λ b. cond b (Some y) (find p xs)) is) ∙ found) in (inr there.0, there.1)
