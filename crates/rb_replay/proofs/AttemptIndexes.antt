-- The index of what came before, after each change.
use Rattle.std.proofs.Common.{◌≡◌, ℕ, zero, suc, ◌+◌, ◌<◌, ◌≤◌, ◌==◌, ◌&&◌, ◌||◌, List, [], ◌∷◌, ◌++◌, length, take, get_or, set, refl, sym, ap, subst, ◌∙◌, arith, append_assoc, length-append, Bool, true, false, cond, Option, Some, None}
use Rattle.std.proofs.lemmas.List.{length-set, take_more}
use Rattle.std.proofs.lemmas.Option.{same_Some}
use Rattle.std.proofs.lemmas.List.Folds.{find-append, list_any-append}
use Rattle.std.proofs.lemmas.List.Elements.{filter_map-append}
use Rattle.std.proofs.lemmas.Bool.Decides.{nat_tests}
use Rattle.std.specs.Prelude.{is_some, option_map, option_and_then}
use Rattle.std.specs.Option.{option_or}
use Rattle.std.specs.List.{find, list_any, filter_map, cons_option}
use Rattle.std.specs.declared.cmp.Ordering.{Ordering}
use Rattle.std.specs.declared.cmp.Ordering.TheVariants.{Less, Equal, Greater}
use Rattle.std.specs.Ordering.{nat_cmp, eq_by_cmp, is_eq, ordering_then}
use Rattle.std.specs.Cmp.{unsigned_tied}
use Rattle.std.specs.FinMap as map
use Rattle.std.specs.FinMap.{get-empty}
use Rattle.std.specs.Map.{lookup}
use Rattle.std.specs.BTreeMap.{is_at}
use Rattle.std.specs.BTreeMap as tree
use Rattle.std.specs.BTreeSet as set
use Rattle.std.specs.BTreeSet.{BTreeSet}
use Rattle.rb_delayed.specs.declared.element.Element.{Element}
use Rattle.rb_queue.specs.Bag.{Bag, bag_from}
use Rattle.rb_queue.specs.Opening.{AreInOrder}
use Rattle.rb_queue.specs.Effect.{given}
use Rattle.rb_queue.proofs.Bags.{get_inserted}
use Rattle.rb_queue.proofs.Queues.{absent_before, bag_from-more, named_at}
use Rattle.rb_replay.specs.Links.{Past, is_attempt}
use Rattle.rb_replay.specs.AttemptIndex.{attempt_cmp, attempt_of, offer_at, offer_of, next_id_of, IsPlaceOf, element_of, first_given_in, begun, given_first, Recalls, MarksRetry, RecallsOffer, KeepsOpened, KeepsOffer, KeepsGiven}
use Rattle.rb_replay.specs.declared.offered_element.OfferedElement.{OfferedElement}
use Rattle.rb_replay.specs.declared.attempt.Attempt.{Attempt}
use Rattle.rb_replay.specs.declared.attempt_index.AttemptIndex.{AttemptIndex}
use Rattle.rb_replay.proofs.Elements.{flipped}

-- two attempts tie exactly where their jobs and their numbers are the same
ties : (one other : Ordering) → is_eq (ordering_then one other) ≡ (is_eq one && is_eq other)
ties Less other = refl
ties Equal other = refl
ties Greater other = refl

tied : (one other : Attempt) → is_at (attempt_cmp one) other ≡ ((one.origin == other.origin) && (one.number == other.number))
tied one other =
    ties (nat_cmp one.origin other.origin) (nat_cmp one.number other.number)
    ∙ ap (λ b. b && is_eq (nat_cmp one.number other.number)) (unsigned_tied one.origin other.origin)
    ∙ ap (λ b. (one.origin == other.origin) && b) (unsigned_tied one.number other.number)

same_attempt : (element : Element) (attempt : Attempt)
    → is_at (attempt_cmp (attempt_of element)) attempt ≡ is_attempt attempt.origin attempt.number element
same_attempt element attempt = tied (attempt_of element) attempt

both : (a b c d : ℕ) → ((a == b) && (c == d)) ≡ true → (a ≡ b) × (c ≡ d)
both a b c d h = (grind (arith, nat_tests), grind (arith, nat_tests))

-- an element of an attempt has its origin and its number
pub of_attempt : (origin number : ℕ) (element : Element) → is_attempt origin number element ≡ true
    → (element.origin ≡ origin) × (element.attempt ≡ number)
of_attempt origin number element = both element.origin origin element.attempt number

-- the attempt of an element is the element's
is_own : (attempt : Attempt) (element : Element) → is_attempt attempt.origin attempt.number element ≡ true → attempt ≡ attempt_of element
is_own attempt element is =
    let same = of_attempt attempt.origin attempt.number element is in
    λ i. record { origin = sym same.0 i; number = sym same.1 i }

-- an offer is found under its id, and nothing outside
offer_at-past : (first : ℕ) (offers : List OfferedElement) (id : ℕ) → first + length offers ≤ id → offer_at first offers id ≡ None
offer_at-past first [] id past = refl
offer_at-past first (offer ∷ offers) id past =
    let apart : (id == first) ≡ false = grind (arith, nat_tests) in
    ap (λ b. cond b (Some offer) (offer_at (first + 1) offers id)) apart ∙ offer_at-past (first + 1) offers id (omega (arith, past))

offer_at-before : (first : ℕ) (offers : List OfferedElement) (id : ℕ) → id < first → offer_at first offers id ≡ None
offer_at-before first [] id before = refl
offer_at-before first (offer ∷ offers) id before =
    let apart : (id == first) ≡ false = grind (arith, nat_tests) in
    ap (λ b. cond b (Some offer) (offer_at (first + 1) offers id)) apart ∙ offer_at-before (first + 1) offers id (omega (arith, before))

offer_at-place : (first : ℕ) (offers : List OfferedElement) (place id : ℕ) (other : OfferedElement) → place < length offers → first + place ≡ id
    → offer_at first offers id ≡ Some (get_or offers place other)
offer_at-place first [] place id other within is = absurd (omega (arith, within))
offer_at-place first (offer ∷ offers) zero id other within is =
    let here : (id == first) ≡ true = grind (arith, nat_tests) in
    ap (λ b. cond b (Some offer) (offer_at (first + 1) offers id)) here
offer_at-place first (offer ∷ offers) (suc place) id other within is =
    let apart : (id == first) ≡ false = grind (arith, nat_tests) in
    ap (λ b. cond b (Some offer) (offer_at (first + 1) offers id)) apart
    ∙ offer_at-place (first + 1) offers place id other (omega (arith, within)) (omega (arith, is))

-- one more behind the last
offer_at-push : (first : ℕ) (offers : List OfferedElement) (last : OfferedElement) (id : ℕ)
    → offer_at first (offers ++ last ∷ []) id ≡ cond (id == first + length offers) (Some last) (offer_at first offers id)
offer_at-push first [] last id = let same : first + 0 ≡ first = omega arith in ap (λ n. cond (id == n) (Some last) None) (sym same)
offer_at-push first (offer ∷ offers) last id =
    ap (cond (id == first) (Some offer)) (offer_at-push (first + 1) offers last id)
    ∙ ap (λ n. cond (id == first) (Some offer) (cond (id == n) (Some last) (offer_at (first + 1) offers id))) same
    ∙ by_test (id == first) refl
  where
    same : first + 1 + length offers ≡ first + length (offer ∷ offers)
    same = omega arith

    by_test : (b : Bool) → (id == first) ≡ b
        → cond b (Some offer) (cond (id == first + length (offer ∷ offers)) (Some last) (offer_at (first + 1) offers id))
        ≡ cond (id == first + length (offer ∷ offers)) (Some last) (cond b (Some offer) (offer_at (first + 1) offers id))
    by_test true is =
        let apart : (id == first + length (offer ∷ offers)) ≡ false = grind (arith, nat_tests) in
        sym (ap (λ c. cond c (Some last) (Some offer)) apart)
    by_test false is = refl

-- another one at a place
offer_at-set : (first : ℕ) (offers : List OfferedElement) (place : ℕ) (offer : OfferedElement) (id : ℕ) → place < length offers
    → offer_at first (set offers place offer) id ≡ cond (id == first + place) (Some offer) (offer_at first offers id)
offer_at-set first [] place offer id within = absurd (omega (arith, within))
offer_at-set first (other ∷ offers) zero offer id within =
    let same : first + 0 ≡ first = omega arith in
    ap (λ n. cond (id == n) (Some offer) (offer_at (first + 1) offers id)) (sym same) ∙ either (id == first + 0) (id == first) (ap (λ n. id == n) same)
  where
    either : (here first_here : Bool) → here ≡ first_here
        → cond here (Some offer) (offer_at (first + 1) offers id) ≡ cond here (Some offer) (cond first_here (Some other) (offer_at (first + 1) offers id))
    either true first_here is = refl
    either false true is = absurd (cc)
    either false false is = refl
offer_at-set first (other ∷ offers) (suc place) offer id within =
    ap (cond (id == first) (Some other)) (offer_at-set (first + 1) offers place offer id (omega (arith, within)))
    ∙ ap (λ n. cond (id == first) (Some other) (cond (id == n) (Some offer) (offer_at (first + 1) offers id))) same
    ∙ by_test (id == first) refl
  where
    same : first + 1 + place ≡ first + suc place
    same = omega arith

    by_test : (b : Bool) → (id == first) ≡ b
        → cond b (Some other) (cond (id == first + suc place) (Some offer) (offer_at (first + 1) offers id))
        ≡ cond (id == first + suc place) (Some offer) (cond b (Some other) (offer_at (first + 1) offers id))
    by_test true is =
        let apart : (id == first + suc place) ≡ false = grind (arith, nat_tests) in
        sym (ap (λ c. cond c (Some offer) (Some other)) apart)
    by_test false is = refl

-- a place of an id, and an id that has none
pub placed : (attempts : AttemptIndex) (id place : ℕ) (offer : OfferedElement) → IsPlaceOf attempts id place → offer ≡ get_or attempts.offers.items place offer
    → offer_of attempts id ≡ Some offer
placed attempts id place offer at is = offer_at-place attempts.first_id attempts.offers.items place id offer at.within at.placed ∙ ap Some (sym is)

pub not_before : (attempts : AttemptIndex) (id : ℕ) → id < attempts.first_id → offer_of attempts id ≡ None
not_before attempts id before = offer_at-before attempts.first_id attempts.offers.items id before

pub not_behind : (attempts : AttemptIndex) (id : ℕ) → next_id_of attempts ≤ id → offer_of attempts id ≡ None
not_behind attempts id behind = offer_at-past attempts.first_id attempts.offers.items id behind

nowhere : (attempts : AttemptIndex) (id : ℕ) → attempts.offers.items ≡ [] → offer_of attempts id ≡ None
nowhere attempts id none = ap (λ l. offer_at attempts.first_id l id) none

-- what no offer says, the maps do
element_before : (attempts : AttemptIndex) (id : ℕ) → offer_of attempts id ≡ None → element_of attempts id ≡ tree.get nat_cmp attempts.opened id
element_before attempts id none = ap (λ o. option_or (option_map (λ (a : OfferedElement). a.element) o) (tree.get nat_cmp attempts.opened id)) none

given_before : (attempts : AttemptIndex) (attempt : Attempt) → offer_of attempts attempt.origin ≡ None
    → given_first attempts attempt ≡ tree.get attempt_cmp attempts.given attempt
given_before attempts attempt none =
    ap (λ o. option_or (cond (attempt.number == 1) (option_and_then first_given_in o) None) (tree.get attempt_cmp attempts.given attempt)) none
    ∙ either (attempt.number == 1)
  where
    either : (b : Bool) → option_or (cond b (option_and_then first_given_in None) None) (tree.get attempt_cmp attempts.given attempt) ≡ tree.get attempt_cmp attempts.given attempt
    either true = refl
    either false = refl

-- nothing came before
pub recalls_nothing : (attempts : AttemptIndex) → attempts.offers.items ≡ [] → attempts.opened.entries ≡ [] → attempts.offered.keys ≡ []
    → attempts.given.entries ≡ [] → Recalls map.empty (record { offers = []; given = [] }) attempts
recalls_nothing attempts offers opened offered given = record {
  elements = λ id.
      element_before attempts id (nowhere attempts id offers) ∙ ap (lookup (is_at (nat_cmp id))) opened ∙ sym (get-empty nat_cmp id);
  offered = λ attempt later. ap (list_any (is_at (attempt_cmp attempt))) offered;
  given = λ attempt.
      given_before attempts attempt (nowhere attempts attempt.origin offers) ∙ ap (lookup (is_at (attempt_cmp attempt))) given;
}

-- a retry is marked
or_last : (here before : Bool) → cond here true before ≡ (before || (here || false))
or_last true true = refl
or_last true false = refl
or_last false true = refl
or_last false false = refl

pub marked : (attempt : Attempt) (old new : BTreeSet Attempt)
    → ((other : Attempt) → set.contains attempt_cmp new other ≡ cond (is_at (attempt_cmp attempt) other) true (set.contains attempt_cmp old other))
    → MarksRetry attempt old new
marked attempt old new is other later = is other

pub first_unmarked : (attempt : Attempt) (offered : BTreeSet Attempt) → attempt.number < 2 → MarksRetry attempt offered offered
first_unmarked attempt offered first other later =
    let apart : (attempt.number == other.number) ≡ false = grind (arith, nat_tests) in
    sym (ap (λ b. cond b true (set.contains attempt_cmp offered other)) (tied attempt other ∙ ap (λ b. (attempt.origin == other.origin) && b) apart ∙ never (attempt.origin == other.origin)))
  where
    never : (b : Bool) → (b && false) ≡ false
    never true = refl
    never false = refl

marks : (element : Element) (old new : AttemptIndex) (past : Past) (attempt : Attempt)
    → (set.contains attempt_cmp old.offered attempt ≡ list_any (is_attempt attempt.origin attempt.number) past.offers)
    → set.contains attempt_cmp new.offered attempt ≡ cond (is_at (attempt_cmp (attempt_of element)) attempt) true (set.contains attempt_cmp old.offered attempt)
    → set.contains attempt_cmp new.offered attempt ≡ list_any (is_attempt attempt.origin attempt.number) (past.offers ++ element ∷ [])
marks element old new past attempt before after =
    after ∙ ap (λ b. cond b true (set.contains attempt_cmp old.offered attempt)) (same_attempt element attempt)
    ∙ ap (cond (is_attempt attempt.origin attempt.number element) true) before
    ∙ or_last (is_attempt attempt.origin attempt.number element) (list_any (is_attempt attempt.origin attempt.number) past.offers)
    ∙ sym (list_any-append (is_attempt attempt.origin attempt.number) past.offers (element ∷ []))

-- an element more came in: under its id, where nothing changes of what was given
recalls_offer : (element : Element) (old new : AttemptIndex)
    → ((id : ℕ) → element_of new id ≡ cond (id == element.id) (Some element) (element_of old id))
    → ((attempt : Attempt) → given_first new attempt ≡ given_first old attempt)
    → MarksRetry (attempt_of element) old.offered new.offered → RecallsOffer element old new
recalls_offer element old new filed same later came past recalls = record {
  elements = λ id.
      filed id ∙ ap (λ b. cond b (Some element) (element_of old id)) (sym (unsigned_tied id element.id))
      ∙ ap (cond (eq_by_cmp nat_cmp id element.id) (Some element)) (recalls.elements id)
      ∙ sym (get_inserted came element.id id element);
  offered = λ attempt is_later. marks element old new past attempt (recalls.offered attempt is_later) (later attempt is_later);
  given = λ attempt. same attempt ∙ recalls.given attempt;
}

-- an element more stood at the start
pub keeps_opened : (element : Element) (old new : AttemptIndex) → old.offers.items ≡ [] → new.offers ≡ old.offers → new.first_id ≡ old.first_id
    → new.given ≡ old.given
    → ((id : ℕ) → tree.get nat_cmp new.opened id ≡ cond (is_at (nat_cmp element.id) id) (Some element) (tree.get nat_cmp old.opened id))
    → MarksRetry (attempt_of element) old.offered new.offered → KeepsOpened element old new
keeps_opened element old new none offers first_id given filed later =
    let none_after : new.offers.items ≡ [] = ap (λ a. a.items) offers ∙ none in
    record {
      recalls = recalls_offer element old new
          (λ id.
          element_before new id (nowhere new id none_after) ∙ filed id
          ∙ ap (λ b. cond b (Some element) (tree.get nat_cmp old.opened id)) (flipped element.id id ∙ unsigned_tied id element.id)
          ∙ ap (cond (id == element.id) (Some element)) (sym (element_before old id (nowhere old id none))))
          (λ attempt.
          given_before new attempt (nowhere new attempt.origin none_after) ∙ ap (λ m. tree.get attempt_cmp m attempt) given
          ∙ sym (given_before old attempt (nowhere old attempt.origin none)))
          later;
      offers = offers;
      first_id = first_id;
    }

-- an element more was offered
pub keeps_offered : (element : Element) (old new : AttemptIndex)
    → new.offers.items ≡ old.offers.items ++ (record { element = element; is_given_first = false }) ∷ [] → new.first_id ≡ old.first_id
    → new.opened ≡ old.opened → new.given ≡ old.given → element.id ≡ next_id_of old
    → MarksRetry (attempt_of element) old.offered new.offered → KeepsOffer element old new
keeps_offered element old new offers first_id opened given next later = record {
  recalls = recalls_offer element old new
      (λ id.
      ap (λ o. option_or (option_map (λ (a : OfferedElement). a.element) o) (tree.get nat_cmp new.opened id)) (pushed id)
      ∙ ap (λ m. option_or (option_map (λ (a : OfferedElement). a.element) (cond (id == element.id) (Some offer) (offer_of old id))) (tree.get nat_cmp m id)) opened
      ∙ here_or_before id (id == element.id))
      (λ attempt.
      ap (λ o. option_or (cond (attempt.number == 1) (option_and_then first_given_in o) None) (tree.get attempt_cmp new.given attempt)) (pushed attempt.origin)
      ∙ ap (λ m. option_or (cond (attempt.number == 1) (option_and_then first_given_in (cond (attempt.origin == element.id) (Some offer) (offer_of old attempt.origin))) None) (tree.get attempt_cmp m attempt)) given
      ∙ ap (λ o. option_or (cond (attempt.number == 1) o None) (tree.get attempt_cmp old.given attempt)) (not_given attempt.origin (attempt.origin == element.id) refl))
      later;
  next_id = ap (λ f. f + length new.offers.items) first_id ∙ ap (λ l. old.first_id + length l) offers
      ∙ omega (arith, length-append old.offers.items (offer ∷ []));
}
  where
    offer : OfferedElement
    offer = record { element = element; is_given_first = false }

    pushed : (id : ℕ) → offer_of new id ≡ cond (id == element.id) (Some offer) (offer_of old id)
    pushed id =
        ap (λ f. offer_at f new.offers.items id) first_id ∙ ap (λ l. offer_at old.first_id l id) offers
        ∙ offer_at-push old.first_id old.offers.items offer id
        ∙ ap (λ n. cond (id == n) (Some offer) (offer_of old id)) (sym next)

    here_or_before : (id : ℕ) (b : Bool)
        → option_or (option_map (λ (a : OfferedElement). a.element) (cond b (Some offer) (offer_of old id))) (tree.get nat_cmp old.opened id)
        ≡ cond b (Some element) (element_of old id)
    here_or_before id true = refl
    here_or_before id false = refl

    not_given : (id : ℕ) (b : Bool) → (id == element.id) ≡ b
        → option_and_then first_given_in (cond b (Some offer) (offer_of old id)) ≡ option_and_then first_given_in (offer_of old id)
    not_given id true is =
        let last : old.first_id + length old.offers.items ≤ id = grind (arith, nat_tests) in
        sym (ap (option_and_then first_given_in) (offer_at-past old.first_id old.offers.items id last))
    not_given id false is = refl

-- nothing more was given
or_none : {A : Type 0} (o : Option A) → o ≡ option_or o None
or_none None = refl
or_none (Some x) = refl

-- an element was given of whose attempt one was given before
or_first : {A : Type 0} (o last : Option A) → is_some o ≡ true → o ≡ option_or o last
or_first None last some = absurd (cc)
or_first (Some x) last some = refl

given_again : (element : Element) (past : Past) (attempt : Attempt) (b : Bool) → is_attempt attempt.origin attempt.number element ≡ b
    → is_some (find (is_attempt element.origin element.attempt) past.given) ≡ true
    → find (is_attempt attempt.origin attempt.number) past.given
    ≡ option_or (find (is_attempt attempt.origin attempt.number) past.given) (cond b (Some element) None)
given_again element past attempt true is some =
    or_first (find (is_attempt attempt.origin attempt.number) past.given) (Some element)
    (ap (λ (a : Attempt). is_some (find (is_attempt a.origin a.number) past.given)) (is_own attempt element is) ∙ some)
given_again element past attempt false is some = or_none (find (is_attempt attempt.origin attempt.number) past.given)

-- the elements that were given with one more
with_given : (came : Bag) (past : Past) (id : ℕ) (element : Element) → map.get came id ≡ Some element
    → past.given ++ element ∷ [] ≡ past.given ++ filter_map (map.get came) (id ∷ [])
with_given came past id element is = ap (λ o. past.given ++ cons_option o []) (sym is)

first_with : (past : Past) (attempt : Attempt) (element : Element)
    → find (is_attempt attempt.origin attempt.number) (past.given ++ element ∷ [])
    ≡ option_or (find (is_attempt attempt.origin attempt.number) past.given) (cond (is_attempt attempt.origin attempt.number element) (Some element) None)
first_with past attempt element = find-append (is_attempt attempt.origin attempt.number) past.given (element ∷ [])

pub keeps_given_before : (id : ℕ) (element : Element) (attempts : AttemptIndex) → element_of attempts id ≡ Some element
    → is_some (given_first attempts (attempt_of element)) ≡ true → KeepsGiven (id ∷ []) attempts attempts
keeps_given_before id element attempts known some = record {
  recalls = λ came past recalls.
      let is : map.get came id ≡ Some element = sym (recalls.elements id) ∙ known in
      let before : is_some (find (is_attempt element.origin element.attempt) past.given) ≡ true = ap is_some (sym (recalls.given (attempt_of element))) ∙ some in
      subst (λ given. Recalls came (record past { given = given }) attempts) (with_given came past id element is)
      (record {
        elements = recalls.elements;
        offered = recalls.offered;
        given = λ attempt.
            recalls.given attempt ∙ given_again element past attempt (is_attempt attempt.origin attempt.number element) refl before
            ∙ sym (first_with past attempt element);
      });
  next_id = refl;
}

-- an element was given, the first of its attempt
gives_first : (element : Element) (past : Past) (attempt : Attempt) (b : Bool) → is_attempt attempt.origin attempt.number element ≡ b
    → is_some (find (is_attempt element.origin element.attempt) past.given) ≡ false
    → cond b (Some element) (find (is_attempt attempt.origin attempt.number) past.given)
    ≡ option_or (find (is_attempt attempt.origin attempt.number) past.given) (cond b (Some element) None)
gives_first element past attempt true is none =
    alone (find (is_attempt attempt.origin attempt.number) past.given)
    (ap (λ (a : Attempt). is_some (find (is_attempt a.origin a.number) past.given)) (is_own attempt element is) ∙ none)
  where
    alone : (o : Option Element) → is_some o ≡ false → Some element ≡ option_or o (Some element)
    alone None off = refl
    alone (Some other) off = absurd (cc)
gives_first element past attempt false is none = or_none (find (is_attempt attempt.origin attempt.number) past.given)

keeps_given_first : (id : ℕ) (element : Element) (old new : AttemptIndex) → element_of old id ≡ Some element
    → is_some (given_first old (attempt_of element)) ≡ false
    → ((attempt : Attempt) → given_first new attempt
    ≡ cond (is_at (attempt_cmp (attempt_of element)) attempt) (Some element) (given_first old attempt))
    → ((other : ℕ) → element_of new other ≡ element_of old other) → new.offered ≡ old.offered → next_id_of new ≡ next_id_of old
    → KeepsGiven (id ∷ []) old new
keeps_given_first id element old new known none filed elements offered next_id = record {
  recalls = λ came past recalls.
      let is : map.get came id ≡ Some element = sym (recalls.elements id) ∙ known in
      let before : is_some (find (is_attempt element.origin element.attempt) past.given) ≡ false = ap is_some (sym (recalls.given (attempt_of element))) ∙ none in
      subst (λ given. Recalls came (record past { given = given }) new) (with_given came past id element is)
      (record {
        elements = λ other. elements other ∙ recalls.elements other;
        offered = λ attempt later. ap (λ s. set.contains attempt_cmp s attempt) offered ∙ recalls.offered attempt later;
        given = λ attempt.
            filed attempt ∙ ap (λ b. cond b (Some element) (given_first old attempt)) (same_attempt element attempt)
            ∙ ap (cond (is_attempt attempt.origin attempt.number element) (Some element)) (recalls.given attempt)
            ∙ gives_first element past attempt (is_attempt attempt.origin attempt.number element) refl before
            ∙ sym (first_with past attempt element);
      });
  next_id = next_id;
}

-- it is kept in the map
pub keeps_in_map : (id : ℕ) (element : Element) (old new : AttemptIndex) → element_of old id ≡ Some element
    → is_some (given_first old (attempt_of element)) ≡ false
    → ((attempt : Attempt) → tree.get attempt_cmp new.given attempt
    ≡ cond (is_at (attempt_cmp (attempt_of element)) attempt) (Some element) (tree.get attempt_cmp old.given attempt))
    → new.opened ≡ old.opened → new.first_id ≡ old.first_id → new.offers ≡ old.offers → new.offered ≡ old.offered → KeepsGiven (id ∷ []) old new
keeps_in_map id element old new known none filed opened first_id offers offered =
    keeps_given_first id element old new known none first
    (λ other.
    ap (λ o. option_or (option_map (λ (a : OfferedElement). a.element) o) (tree.get nat_cmp new.opened other)) (same other)
    ∙ ap (λ m. option_or (option_map (λ (a : OfferedElement). a.element) (offer_of old other)) (tree.get nat_cmp m other)) opened)
    offered (ap (λ f. f + length new.offers.items) first_id ∙ ap (λ a. old.first_id + length a.items) offers)
  where
    same : (other : ℕ) → offer_of new other ≡ offer_of old other
    same other = ap (λ f. offer_at f new.offers.items other) first_id ∙ ap (λ a. offer_at old.first_id a.items other) offers

    same_begun : (attempt : Attempt) → begun new attempt ≡ begun old attempt
    same_begun attempt = ap (λ o. cond (attempt.number == 1) (option_and_then first_given_in o) None) (same attempt.origin)

    behind : (o before : Option Element) (b : Bool) → (b ≡ true → is_some (option_or o before) ≡ false)
        → option_or o (cond b (Some element) before) ≡ cond b (Some element) (option_or o before)
    behind None before true none = refl
    behind None before false none = refl
    behind (Some other) before true none = let wrong : true ≡ false = none refl in absurd (cc)
    behind (Some other) before false none = refl

    first : (attempt : Attempt) → given_first new attempt ≡ cond (is_at (attempt_cmp (attempt_of element)) attempt) (Some element) (given_first old attempt)
    first attempt =
        ap (λ o. option_or o (tree.get attempt_cmp new.given attempt)) (same_begun attempt)
        ∙ ap (option_or (begun old attempt)) (filed attempt)
        ∙ behind (begun old attempt) (tree.get attempt_cmp old.given attempt) (is_at (attempt_cmp (attempt_of element)) attempt)
        (λ own. ap (λ (a : Attempt). is_some (given_first old a)) (is_own attempt element (sym (same_attempt element attempt) ∙ own)) ∙ none)

-- its offer is marked
pub keeps_at_place : (id place : ℕ) (element : Element) (offer : OfferedElement) (old new : AttemptIndex) → element_of old id ≡ Some element
    → is_some (given_first old (attempt_of element)) ≡ false → IsPlaceOf old id place → offer ≡ get_or old.offers.items place offer
    → element.attempt ≡ 1 → element.origin ≡ id
    → new.offers.items ≡ set old.offers.items place (record offer { is_given_first = true })
    → new.opened ≡ old.opened → new.first_id ≡ old.first_id → new.offered ≡ old.offered → new.given ≡ old.given → KeepsGiven (id ∷ []) old new
keeps_at_place id place element offer old new known none at is first own offers opened first_id offered given =
    keeps_given_first id element old new known none filed
    (λ other.
    ap (λ o. option_or (option_map (λ (a : OfferedElement). a.element) o) (tree.get nat_cmp new.opened other)) (changed other)
    ∙ ap (λ m. option_or (option_map (λ (a : OfferedElement). a.element) (cond (other == id) (Some marked) (offer_of old other))) (tree.get nat_cmp m other)) opened
    ∙ ap (λ o. option_or o (tree.get nat_cmp old.opened other)) (same_element_at other (other == id) refl))
    offered
    (ap (λ f. f + length new.offers.items) first_id
    ∙ ap (λ l. old.first_id + length l) offers
    ∙ ap (λ n. old.first_id + n) (length-set old.offers.items place marked))
  where
    marked : OfferedElement
    marked = record offer { is_given_first = true }

    there : offer_of old id ≡ Some offer
    there = placed old id place offer at is

    element_is : offer.element ≡ element
    element_is = same_Some _ _ (sym (ap (λ o. option_or (option_map (λ (a : OfferedElement). a.element) o) (tree.get nat_cmp old.opened id)) there) ∙ known)

    changed : (other : ℕ) → offer_of new other ≡ cond (other == id) (Some marked) (offer_of old other)
    changed other =
        ap (λ f. offer_at f new.offers.items other) first_id ∙ ap (λ l. offer_at old.first_id l other) offers
        ∙ offer_at-set old.first_id old.offers.items place marked other at.within
        ∙ ap (λ n. cond (other == n) (Some marked) (offer_of old other)) at.placed

    same_element_at : (other : ℕ) (b : Bool) → (other == id) ≡ b
        → option_map (λ (a : OfferedElement). a.element) (cond b (Some marked) (offer_of old other)) ≡ option_map (λ (a : OfferedElement). a.element) (offer_of old other)
    same_element_at other true here =
        let same : other ≡ id = grind (arith, nat_tests) in
        sym (ap (λ n. option_map (λ (a : OfferedElement). a.element) (offer_of old n)) same ∙ ap (option_map (λ (a : OfferedElement). a.element)) there)
    same_element_at other false here = refl

    given_at : (attempt : Attempt) (same_origin same_number : Bool) → (attempt.origin == id) ≡ same_origin → (attempt.number == 1) ≡ same_number
        → option_or (cond same_number (option_and_then first_given_in (cond same_origin (Some marked) (offer_of old attempt.origin))) None) (tree.get attempt_cmp old.given attempt)
        ≡ cond (same_origin && same_number) (Some element) (option_or (cond same_number (option_and_then first_given_in (offer_of old attempt.origin)) None) (tree.get attempt_cmp old.given attempt))
    given_at attempt true true origin number = ap Some element_is
    given_at attempt true false origin number = refl
    given_at attempt false true origin number = refl
    given_at attempt false false origin number = refl

    tests : (attempt : Attempt) → ((attempt.origin == id) && (attempt.number == 1)) ≡ is_at (attempt_cmp (attempt_of element)) attempt
    tests attempt =
        let same_origin : (attempt.origin == id) ≡ (element.origin == attempt.origin) = grind (arith, nat_tests) in
        let same_number : (attempt.number == 1) ≡ (element.attempt == attempt.number) = grind (arith, nat_tests) in
        ap (λ b. b && (attempt.number == 1)) same_origin ∙ ap (λ b. (element.origin == attempt.origin) && b) same_number ∙ sym (tied (attempt_of element) attempt)

    filed : (attempt : Attempt) → given_first new attempt ≡ cond (is_at (attempt_cmp (attempt_of element)) attempt) (Some element) (given_first old attempt)
    filed attempt =
        ap (λ o. option_or (cond (attempt.number == 1) (option_and_then first_given_in o) None) (tree.get attempt_cmp new.given attempt)) (changed attempt.origin)
        ∙ ap (λ m. option_or (cond (attempt.number == 1) (option_and_then first_given_in (cond (attempt.origin == id) (Some marked) (offer_of old attempt.origin))) None) (tree.get attempt_cmp m attempt)) given
        ∙ given_at attempt (attempt.origin == id) (attempt.number == 1) refl refl
        ∙ ap (λ b. cond b (Some element) (given_first old attempt)) (tests attempt)

given_more : (ids more : List ℕ) (old mid new : AttemptIndex) → KeepsGiven ids old mid → KeepsGiven more mid new → KeepsGiven (ids ++ more) old new
given_more ids more old mid new first second = record {
  recalls = λ came past recalls.
      let regrouped : past.given ++ filter_map (map.get came) ids ++ filter_map (map.get came) more ≡ past.given ++ filter_map (map.get came) (ids ++ more) =
      append_assoc past.given (filter_map (map.get came) ids) (filter_map (map.get came) more)
      ∙ ap (λ l. past.given ++ l) (sym (filter_map-append (map.get came) ids more)) in
      subst (λ given. Recalls came (record past { given = given }) new) regrouped
      (second.recalls came (record past { given = past.given ++ filter_map (map.get came) ids }) (first.recalls came past recalls));
  next_id = second.next_id ∙ first.next_id;
}

pub given_next : (ids : List ℕ) (i id : ℕ) (old mid new : AttemptIndex) → i < length ids → id ≡ get_or ids i id
    → KeepsGiven (take i ids) old mid → KeepsGiven (id ∷ []) mid new → KeepsGiven (take (i + 1) ids) old new
given_next ids i id old mid new within is first second =
    let more : take i ids ++ id ∷ [] ≡ take (i + 1) ids = ap (λ x. take i ids ++ x ∷ []) is ∙ sym (take_more ids i id within) in
    subst (λ l. KeepsGiven l old new) more (given_more (take i ids) (id ∷ []) old mid new first second)

-- these elements stood at the start
pub record HasOpened (elements : List Element) (next_id : ℕ) (attempts : AttemptIndex) : Type 0 where
  pub recalls : Recalls (bag_from elements) (record { offers = elements; given = [] }) attempts
  pub none_offered : attempts.offers.items ≡ []
  pub first_id : attempts.first_id ≡ next_id

pub opened_none : (next_id : ℕ) (attempts : AttemptIndex) → attempts.offers.items ≡ [] → attempts.opened.entries ≡ [] → attempts.offered.keys ≡ []
    → attempts.given.entries ≡ [] → attempts.first_id ≡ next_id → HasOpened [] next_id attempts
opened_none next_id attempts offers opened offered given first_id = record {
  recalls = recalls_nothing attempts offers opened offered given;
  none_offered = offers;
  first_id = first_id;
}

pub opened_next : (elements : List Element) (end i : ℕ) (element : Element) (old new : AttemptIndex) → AreInOrder elements end → i < length elements
    → element ≡ get_or elements i element → HasOpened (take i elements) end old → KeepsOpened element old new → HasOpened (take (i + 1) elements) end new
opened_next elements end i element old new order within is so_far keeps =
    let absent = absent_before elements end i element order within (named_at elements i element within is) in
    let more : take i elements ++ element ∷ [] ≡ take (i + 1) elements = ap (λ e. take i elements ++ e ∷ []) is ∙ sym (take_more elements i element within) in
    record {
      recalls = subst (λ bag. Recalls bag (record { offers = take (i + 1) elements; given = [] }) new) (sym (bag_from-more elements i element within is absent))
          (subst (λ l. Recalls (map.insert (bag_from (take i elements)) element.id element) (record { offers = l; given = [] }) new) more
          (keeps.recalls (bag_from (take i elements)) (record { offers = take i elements; given = [] }) so_far.recalls));
      none_offered = ap (λ a. a.items) keeps.offers ∙ so_far.none_offered;
      first_id = keeps.first_id ∙ so_far.first_id;
    }

-- the first attempt of a job of its own
pub begun_at : (attempts : AttemptIndex) (attempt : Attempt) (place : ℕ) (offer : OfferedElement) → attempt.number ≡ 1 → IsPlaceOf attempts attempt.origin place
    → offer ≡ get_or attempts.offers.items place offer → begun attempts attempt ≡ first_given_in offer
begun_at attempts attempt place offer first at is =
    let one : (attempt.number == 1) ≡ true = grind (arith, nat_tests) in
    ap (λ b. cond b (option_and_then first_given_in (offer_of attempts attempt.origin)) None) one
    ∙ ap (option_and_then first_given_in) (placed attempts attempt.origin place offer at is)

pub element_at : (attempts : AttemptIndex) (id place : ℕ) (offer : OfferedElement) → IsPlaceOf attempts id place
    → offer ≡ get_or attempts.offers.items place offer → element_of attempts id ≡ Some offer.element
element_at attempts id place offer at is =
    ap (λ o. option_or (option_map (λ (a : OfferedElement). a.element) o) (tree.get nat_cmp attempts.opened id)) (placed attempts id place offer at is)
