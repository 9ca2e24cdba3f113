-- Each event of a gathered history is of one of the records, by its name.
use Rattle.std.proofs.Common.{◌≡◌, ◌≢◌, ℕ, zero, suc, ◌<◌, ◌==◌, Bool, true, false, cond, List, [], ◌∷◌, ◌++◌, filter, length, refl, sym, ap, subst, ◌∙◌, arith, eq-eqb, ne_eqb, Contains, sum_by}
use Rattle.std.proofs.lemmas.List.Elements.{Contains-append_right}
use Rattle.std.proofs.lemmas.List.Sums.{sum_by-cons, sum_by-append, get_or-le-sum_by}
use mathlib.Core.Logic.{dite}
use native.Mathlib.Decide.{ℕ_discrete}
use Rattle.rb_queue.specs.Counts.{events_of}
use Rattle.rb_queue.specs.declared.event.Event.{Event}
use Rattle.rb_queue.specs.declared.opening.Opening.{Opening}
use Rattle.rb_retry.specs.Made.{Made, made_after}
use Rattle.rb_lock.specs.Records.{bit, times_in, names_of, calls_of, AreDifferent, AreRecords}
use Rattle.rb_lock.specs.declared.pass_record.PassRecord.{PassRecord}
use Rattle.rb_lock.proofs.CountedCalls.{same_weight}
use Rattle.rb_lock.proofs.Sums.{bit_apart}

-- 1 for an event with this name
abbrev own : ℕ → Event → ℕ
own name event = cond (event.seat == name) 1 0

-- no event of one name has another
none_of_other : (name other : ℕ) → other ≢ name → (history : List Event) → sum_by (own name) (events_of history other) ≡ 0
none_of_other name other apart [] = refl
none_of_other name other apart (event ∷ history) =
    dite (ℕ_discrete event.seat other)
    (λ (is : event.seat ≡ other).
    let differs : own name event ≡ 0 = ap (λ (b : Bool). cond b 1 0) (ne_eqb event.seat name (λ same. apart (sym is ∙ same))) in
    let here : sum_by (own name) (events_of (event ∷ history) other) ≡ sum_by (own name) (event ∷ events_of history other) =
    ap (λ (b : Bool). sum_by (own name) (cond b (event ∷ events_of history other) (events_of history other))) (eq-eqb event.seat other is) in
    omega (arith, here, differs, sum_by-cons (own name) event (events_of history other), none_of_other name other apart history))
    (λ (differ : event.seat ≢ other).
    ap (λ (b : Bool). sum_by (own name) (cond b (event ∷ events_of history other) (events_of history other))) (ne_eqb event.seat other differ)
    ∙ none_of_other name other apart history)

-- a name that a call of the records has is the name of one of them
named : (name : ℕ) (history : List Event) (records : List PassRecord) → AreRecords history records
    → 0 < sum_by (own name) (calls_of records) → 0 < times_in name (names_of records)
named name history [] known some = absurd (omega (arith, some))
named name history (one ∷ records) (first, rest) some =
    dite (ℕ_discrete one.name name)
    (λ (is : one.name ≡ name).
    let here : bit (one.name == name) ≡ 1 = ap bit (eq-eqb one.name name is) in omega (arith, here))
    (λ (apart : one.name ≢ name).
    let none : sum_by (own name) one.mine ≡ 0 = ap (sum_by (own name)) (sym first.all) ∙ none_of_other name one.name apart history in
    omega (arith, named name history records rest (omega (arith, some, none, sum_by-append (own name) one.mine (calls_of records)))))

-- each event has the name of a record behind the first, where that one has no calls
pub named_behind : (history : List Event) (first : PassRecord) (records : List PassRecord) → AreRecords history (first ∷ records)
    → AreDifferent (names_of (first ∷ records)) → length history ≡ length (calls_of (first ∷ records)) → first.mine ≡ []
    → (event : Event) → Contains history event → 0 < times_in event.seat (names_of records)
named_behind history first records known different all none event (place, within, at) =
    let f = own event.seat in
    let one : f event ≡ 1 = ap (λ (b : Bool). cond b 1 0) (eq-eqb event.seat event.seat refl) in
    let nothing : sum_by f first.mine ≡ 0 = ap (sum_by f) none in
    named event.seat history records known.1 (omega (
      arith,
      one,
      nothing,
      get_or-le-sum_by f history place event within,
      ap f at,
      same_weight history (first ∷ records) known different (sym all) f,
      sum_by-append f first.mine (calls_of records),
    ))

-- a number that stands in a list is one of its elements
pub contained : (number : ℕ) (numbers : List ℕ) → 0 < times_in number numbers → Contains numbers number
contained number [] some = absurd (omega (arith, some))
contained number (first ∷ numbers) some =
    dite (ℕ_discrete first number)
    (λ (is : first ≡ number). (0, omega arith, is))
    (λ (apart : first ≢ number).
    Contains-append_right (first ∷ []) numbers number (contained number numbers (omega (arith, some, bit_apart first number apart))))

-- a longer list keeps what was chosen of it
kept_on : {A : Type 0} (chosen : Bool) (first : A) (rest : List A) (one : A) → Contains rest one → Contains (cond chosen (first ∷ rest) rest) one
kept_on true first rest one has = Contains-append_right (first ∷ []) rest one has
kept_on false first rest one has = has

-- what a history made is also what the event's seat made
pub of_its_seat : (all : List Made) (one : Made) → Contains all one
    → Contains (filter (λ (made : Made). made.event.seat == one.event.seat) all) one
of_its_seat [] one (place, within, at) = absurd (omega (arith, within))
of_its_seat (first ∷ all) one (zero, within, at) =
    let own : List Made = filter (λ (made : Made). made.event.seat == one.event.seat) all in
    subst (λ (chosen : Bool). Contains (cond chosen (first ∷ own) own) one)
    (sym (eq-eqb first.event.seat one.event.seat (ap (λ (made : Made). made.event.seat) at))) (0, omega arith, at)
of_its_seat (first ∷ all) one (suc place, within, at) =
    kept_on (first.event.seat == one.event.seat) first (filter (λ (made : Made). made.event.seat == one.event.seat) all) one
    (of_its_seat all one (place, omega (arith, within), at))

-- the event of what a history made is one of its events
pub of_history : (opening : Opening) (before events : List Event) (one : Made) → Contains (made_after opening before events) one
    → Contains events one.event
of_history opening before [] one (place, within, at) = absurd (omega (arith, within))
of_history opening before (event ∷ events) one (zero, within, at) = (0, omega arith, ap (λ (made : Made). made.event) at)
of_history opening before (event ∷ events) one (suc place, within, at) =
    Contains-append_right (event ∷ []) events one.event
    (of_history opening (before ++ event ∷ []) events one (place, omega (arith, within), at))
