-- A history whose offers are checked one after the other.
use Rattle.std.proofs.Common.{◌≡◌, ℕ, zero, suc, ◌+◌, ◌-◌, ◌<◌, ◌≤◌, ◌⊎◌, inl, inr, List, [], ◌∷◌, ◌++◌, length, take, drop, get_or, refl, sym, ap, subst, ◌∙◌, arith, append_assoc, length-append, Bool, true, false, cond, Option, Some, None, Result, Ok, Err}
use Rattle.std.proofs.lemmas.Bool.Decides.{nat_tests}
use Rattle.std.proofs.lemmas.List.{append-nil, take_more, take_at, take-append-drop, length-take}
use Rattle.std.proofs.lemmas.Option.{same_Some}
use Rattle.std.proofs.Math.Seq.{drop-cons}
use Rattle.std.specs.Cmp.Lexicographic.{pointwise, same_text}
use Rattle.std.specs.Prelude.{◌&&◌, not, nat_eq, IsSomeAnd, MatchResult}
use Rattle.std.specs.List.{find, list_any, filter_map}
use Rattle.std.specs.FinMap as map
use Rattle.rb_delayed.specs.declared.element.Element.{Element}
use Rattle.rb_queue.specs.Bag.{Bag, bag_from}
use Rattle.rb_queue.specs.Queue.{Queue}
use Rattle.rb_queue.specs.Effect.{Effect, inserts, gives, removes, empties, effect_of, queue_after, inserted, given}
use Rattle.rb_queue.specs.Calls.{Permits}
use Rattle.rb_queue.specs.History.{State, start_of, state_after, state_from, state_of, Allows, AllowsAll, IsLegal}
use Rattle.rb_queue.proofs.Histories.{state_from-append}
use Rattle.rb_queue.specs.Replies.{with_inserted, offered_from, offered}
use Rattle.rb_queue.specs.declared.act.Act.{Act}
use Rattle.rb_queue.specs.declared.act.Act.TheVariants.{Offer}
use Rattle.rb_queue.specs.declared.event.Event.{Event}
use Rattle.rb_queue.specs.declared.opening.Opening.{Opening}
use Rattle.rb_retry.specs.declared.policy.Policy.{Policy}
use Rattle.rb_history.specs.Offers.{offers_in}
use Rattle.rb_replay.specs.GivenElements.{elements_given_from}
use Rattle.rb_replay.specs.Tests.{Test, NoTest}
use Rattle.rb_replay.specs.Links.{Past, is_attempt, parent_in, CameBefore, Follows, GoesOn, IsLinked}
use Rattle.rb_replay.specs.LinkTests.{FollowTests, ParentTests, GoOnTests, LinkTests}
use Rattle.rb_replay.specs.Chaining.{past_of, IsChained, Unchains}
use Rattle.rb_replay.specs.AttemptIndex.{attempt_of, next_id_of, Recalls, IsNext, Keeps, past_after, EventIsLinked, ChainTests}
use Rattle.rb_replay.specs.declared.attempt.Attempt.{Attempt}
use Rattle.rb_replay.specs.declared.chain_reason.ChainReason.{ChainReason}
use Rattle.rb_replay.specs.declared.chain_reason.ChainReason.TheVariants.{Twice}
use Rattle.rb_replay.specs.declared.attempt_index.AttemptIndex.{AttemptIndex}
use Rattle.rb_replay.proofs.AttemptIndexes.{of_attempt}

-- what came before, with one event more
offered_from-append : (came : Bag) (events : List Event) (event : Event)
    → offered_from came (events ++ event ∷ []) ≡ with_inserted (offered_from came events) (effect_of event.act)
offered_from-append came [] event = refl
offered_from-append came (first ∷ events) event = offered_from-append (with_inserted came (effect_of first.act)) events event

offers_in-append : (events : List Event) (event : Event) → offers_in (events ++ event ∷ []) ≡ offers_in events ++ inserted (effect_of event.act)
offers_in-append [] event = append-nil (inserted (effect_of event.act))
offers_in-append (first ∷ events) event =
    ap (λ l. inserted (effect_of first.act) ++ l) (offers_in-append events event)
    ∙ sym (append_assoc (inserted (effect_of first.act)) (offers_in events) (inserted (effect_of event.act)))

elements_given_from-append : (came : Bag) (events : List Event) (event : Event)
    → elements_given_from came (events ++ event ∷ []) ≡ elements_given_from came events ++ filter_map (map.get (offered_from came events)) (given (effect_of event.act))
elements_given_from-append came [] event = append-nil (filter_map (map.get came) (given (effect_of event.act)))
elements_given_from-append came (first ∷ events) event =
    let after = with_inserted came (effect_of first.act) in
    let gave = filter_map (map.get came) (given (effect_of first.act)) in
    ap (λ l. gave ++ l) (elements_given_from-append after events event)
    ∙ sym (append_assoc gave (elements_given_from after events) (filter_map (map.get (offered_from after events)) (given (effect_of event.act))))

past_more : (opening : Opening) (events : List Event) (event : Event)
    → past_of opening (events ++ event ∷ []) ≡ past_after (offered opening events) (past_of opening events) event.act
past_more opening events event =
    let offers : opening.elements ++ offers_in (events ++ event ∷ []) ≡ opening.elements ++ offers_in events ++ inserted (effect_of event.act) =
    ap (λ l. opening.elements ++ l) (offers_in-append events event) ∙ sym (append_assoc opening.elements (offers_in events) (inserted (effect_of event.act))) in
    λ i. record { offers = offers i; given = elements_given_from-append (bag_from opening.elements) events event i }

-- where a list with one more is split, it is split before that one or at it
abbrev rest_of : {A : Type 0} → List A → List A
rest_of [] = []
rest_of (x ∷ xs) = xs

abbrev first_of : {A : Type 0} → A → List A → A
first_of other [] = other
first_of other (x ∷ xs) = x

split_more : {A : Type 0} (xs : List A) (x : A) (front : List A) (y : A) (behind : List A) → xs ++ x ∷ [] ≡ front ++ y ∷ behind
    → ((front ≡ xs) × (y ≡ x)) ⊎ ((rest : List A) × (xs ≡ front ++ y ∷ rest))
split_more [] x [] y behind is = inl (refl, sym (ap (first_of x) is))
split_more [] x (z ∷ front) y behind is = absurd (omega (arith, ap length is, length-append front (y ∷ behind)))
split_more (z ∷ xs) x [] y behind is = inr (xs, ap (λ h. h ∷ xs) (ap (first_of z) is))
split_more {A = A} (z ∷ xs) x (w ∷ front) y behind is =
    onto (split_more xs x front y behind (ap rest_of is))
  where
    onto : ((front ≡ xs) × (y ≡ x)) ⊎ ((rest : List A) × (xs ≡ front ++ y ∷ rest))
        → ((w ∷ front ≡ z ∷ xs) × (y ≡ x)) ⊎ ((rest : List A) × (z ∷ xs ≡ w ∷ front ++ y ∷ rest))
    onto (inl (same, last)) = inl ((λ i. sym (ap (first_of z) is) i ∷ same i), last)
    onto (inr (rest, same)) = inr (rest, λ i. ap (first_of z) is i ∷ same i)

-- no event, and one event more
chained_none : (policy : Policy) (opening : Opening) → IsChained policy opening []
chained_none policy opening = record {
  linked = λ front behind event element split offers. absurd (omega (arith, ap length split, length-append front (event ∷ behind)));
}

chained_more : (policy : Policy) (opening : Opening) (events : List Event) (event : Event) → IsChained policy opening events
    → EventIsLinked policy (past_of opening events) event → IsChained policy opening (events ++ event ∷ [])
chained_more policy opening events event chained linked = record {
  linked = λ front behind other element split offers. at_place front other element offers (split_more events event front other behind split);
}
  where
    at_place : (front : List Event) (other : Event) (element : Element) → other.act ≡ Offer element
        → ((front ≡ events) × (other ≡ event)) ⊎ ((rest : List Event) × (events ≡ front ++ other ∷ rest))
        → IsLinked policy (past_of opening front) other.asked element
    at_place front other element offers (inl (same, last)) =
        subst (λ l. IsLinked policy (past_of opening l) other.asked element) (sym same)
        (subst (λ (e : Event). IsLinked policy (past_of opening events) e.asked element) (sym last)
        (linked element (sym (ap (λ (e : Event). e.act) last) ∙ offers)))
    at_place front other element offers (inr (rest, split)) = chained.linked front rest other element split offers

-- the events so far are chained, and the index has what they tell, and knows the next id
pub record Looked (policy : Policy) (opening : Opening) (events : List Event) (attempts : AttemptIndex) : Type 0 where
  pub chained : IsChained policy opening events
  pub recalls : Recalls (offered opening events) (past_of opening events) attempts
  pub next_id : next_id_of attempts ≡ (state_of opening events).queue.next_id

pub looked_none : (policy : Policy) (opening : Opening) (attempts : AttemptIndex)
    → Recalls (bag_from opening.elements) (record { offers = opening.elements; given = [] }) attempts
    → next_id_of attempts ≡ opening.next_id → Looked policy opening [] attempts
looked_none policy opening attempts recalls next_id = record {
  chained = chained_none policy opening;
  recalls = subst (λ l. Recalls (bag_from opening.elements) (record { offers = l; given = [] }) attempts) (sym (append-nil opening.elements)) recalls;
  next_id = next_id;
}

-- each event of a legal history is allowed where it stands
allowed_at : (from : State) (events : List Event) (i : ℕ) (event : Event) → AllowsAll from events → i < length events
    → event ≡ get_or events i event → Allows (state_from from (take i events)) event
allowed_at from [] i event allows within is = absurd (omega (arith, within))
allowed_at from (first ∷ events) zero event allows within is = subst (Allows from) (sym is) allows.0
allowed_at from (first ∷ events) (suc i) event allows within is =
    allowed_at (state_after from first) events i event allows.1 (omega (arith, within)) is

-- so an offer gives its element the next id
pub offers_next_id : (policy : Policy) (opening : Opening) (events : List Event) (i : ℕ) (event : Event) (attempts : AttemptIndex)
    → IsLegal opening events → i < length events → event ≡ get_or events i event → Looked policy opening (take i events) attempts
    → IsNext event.act attempts
offers_next_id policy opening events i event attempts legal within is so_far element offers =
    let allowed = allowed_at (start_of opening) events i event legal within is in
    let next : element.id ≡ (state_of opening (take i events)).queue.next_id =
    subst (Permits (state_of opening (take i events)).queue event.at) offers allowed.act in
    next ∙ sym so_far.next_id

-- an event moves the next id on by what it offers
next_id_after : (queue : Queue) (effect : Effect) → (queue_after queue effect).next_id ≡ queue.next_id + length (inserted effect)
next_id_after queue (inserts element) = refl
next_id_after queue (gives ids) = omega arith
next_id_after queue (removes ids) = omega arith
next_id_after queue empties = omega arith

pub looked_more : (policy : Policy) (opening : Opening) (events : List Event) (i : ℕ) (event : Event) (old new : AttemptIndex)
    → i < length events → event ≡ get_or events i event → Looked policy opening (take i events) old
    → EventIsLinked policy (past_of opening (take i events)) event → Keeps event.act old new → Looked policy opening (take (i + 1) events) new
looked_more policy opening events i event old new within is so_far linked keeps =
    let more : take (i + 1) events ≡ take i events ++ event ∷ [] = take_more events i event within ∙ ap (λ e. take i events ++ e ∷ []) (sym is) in
    subst (λ front. Looked policy opening front new) (sym more) (record {
      chained = chained_more policy opening (take i events) event so_far.chained linked;
      recalls = subst (λ came. Recalls came (past_of opening (take i events ++ event ∷ [])) new)
          (sym (offered_from-append (bag_from opening.elements) (take i events) event))
          (subst (λ past. Recalls (with_inserted (offered opening (take i events)) (effect_of event.act)) past new)
          (sym (past_more opening (take i events) event))
          (keeps.recalls (offered opening (take i events)) (past_of opening (take i events)) so_far.recalls));
      next_id = keeps.next_id ∙ ap (λ n. n + length (inserted (effect_of event.act))) so_far.next_id
          ∙ sym (next_id_after (state_of opening (take i events)).queue (effect_of event.act))
          ∙ ap (λ (s : State). s.queue.next_id) (sym (state_from-append (start_of opening) (take i events) event));
    })

-- an element whose tests fail is not linked
follows_not : (policy : Policy) (asked : ℕ) (element parent : Element) (others : ChainReason → Type 0) (reason : ChainReason)
    → FollowTests policy asked element parent others reason → ¬ others reason → ¬ Follows policy asked element parent
follows_not policy asked element parent others reason (inl (off, is)) right follows = off follows.payload
follows_not policy asked element parent others reason (inr (on, inl (off, is))) right follows = off follows.first
follows_not policy asked element parent others reason (inr (on, inr (same, inl (off, is)))) right follows = off follows.expiry
follows_not policy asked element parent others reason (inr (on, inr (same, inr (due, rest)))) right follows = right rest

parent_not : (policy : Policy) (asked : ℕ) (element : Element) (parent : Option Element) (others : ChainReason → Type 0) (reason : ChainReason)
    → ParentTests policy asked element parent others reason → ¬ others reason → ¬ IsSomeAnd parent (Follows policy asked element)
parent_not policy asked element None others reason tests right has = absurd has
parent_not policy asked element (Some parent) others reason tests right follows = follows_not policy asked element parent others reason tests right follows

once_right : (once : Type 0) (reason : ChainReason) → once → ¬ Test once Twice NoTest reason
once_right once reason holds (inl (off, is)) = off holds
once_right once reason holds (inr (on, none)) = absurd none

pub not_linked : (policy : Policy) (past : Past) (asked : ℕ) (element : Element) (reason : ChainReason)
    → LinkTests policy past asked element reason → ¬ IsLinked policy past asked element
not_linked policy past asked element reason (inl (one, inl (off, is))) linked = off (linked.begins one)
not_linked policy past asked element reason (inl (one, inr (on, none))) linked = absurd none
not_linked policy past asked element reason (inr (later, inl (off, is))) linked = off (linked.goes_on later).attempts
not_linked policy past asked element reason (inr (later, inr (on, tests))) linked =
    let goes_on = linked.goes_on later in
    parent_not policy asked element (parent_in past element) _ reason tests (once_right (¬ CameBefore past element) reason goes_on.once) goes_on.parent

-- an event offers an element that is not linked
pub unchained_at : (policy : Policy) (opening : Opening) (events : List Event) (i : ℕ) (event : Event) (attempts : AttemptIndex) (reason : ChainReason)
    → i < length events → event ≡ get_or events i event → Looked policy opening (take i events) attempts
    → ChainTests policy (past_of opening (take i events)) event reason → Unchains policy opening events i reason
unchained_at policy opening events i event attempts reason within is so_far (element, offers, tests) = record {
  front = take i events;
  event = event;
  element = element;
  behind = drop (suc i) events;
  split = sym (take-append-drop i events) ∙ ap (λ t. take i events ++ t) (drop-cons events i event within)
      ∙ ap (λ e. take i events ++ e ∷ drop (suc i) events) (sym is);
  placed = length-take i events ∙ omega (arith, within);
  chained = so_far.chained;
  offered = offers;
  unlinked = not_linked policy _ event.asked element reason tests;
  first = tests;
}

-- an offer is of one element
offered_or : Element → Act → Element
offered_or other (Offer element) = element
offered_or other act = other

same_Offer : (one other : Element) → Offer one ≡ Offer other → one ≡ other
unfolding offered_or
same_Offer one other same = ap (offered_or one) same

-- a parent has the number before
found_so : (p : Element → Bool) (elements : List Element) (parent : Element) → find p elements ≡ Some parent → p parent ≡ true
found_so p [] parent is = absurd (cc)
found_so p (element ∷ elements) parent is = by_test (found_so p elements parent) (p element) refl is
  where
    by_test : (find p elements ≡ Some parent → p parent ≡ true) → (b : Bool) → p element ≡ b
        → cond b (Some element) (find p elements) ≡ Some parent → p parent ≡ true
    by_test later true holds found = subst (λ (e : Element). p e ≡ true) (same_Some element parent found) holds
    by_test later false holds found = later found

pub parent_before : (past : Past) (element parent : Element) → parent_in past element ≡ Some parent → parent.attempt + 1 ≡ element.attempt
parent_before past element parent is =
    let own = found_so (is_attempt element.origin (element.attempt - 1)) past.given parent is in
    let from_one = element.attempt_from_one in
    omega (arith, (of_attempt element.origin (element.attempt - 1) parent own).1, from_one)

-- the reasons of a later attempt
later_tests : (policy : Policy) (asked : ℕ) (element parent : Element) (others : ChainReason → Type 0) (reason : ChainReason)
    → FollowTests policy asked element parent NoTest reason → FollowTests policy asked element parent others reason
later_tests policy asked element parent others reason (inl h) = inl h
later_tests policy asked element parent others reason (inr (on, inl h)) = inr (on, inl h)
later_tests policy asked element parent others reason (inr (on, inr (same, inl h))) = inr (on, inr (same, inl h))
later_tests policy asked element parent others reason (inr (on, inr (same, inr (due, none)))) = absurd none

pub wrong_retry : (policy : Policy) (past : Past) (asked : ℕ) (element parent : Element) (reason : ChainReason) → element.attempt ≤ policy.attempts
    → parent_in past element ≡ Some parent → FollowTests policy asked element parent NoTest reason → GoOnTests policy past asked element reason
wrong_retry policy past asked element parent reason few is tests =
    inr (
      few,
      subst (λ o. ParentTests policy asked element o (Test (¬ CameBefore past element) Twice NoTest) reason) (sym is)
          (later_tests policy asked element parent (Test (¬ CameBefore past element) Twice NoTest) reason tests),
    )

pub offered_twice : (policy : Policy) (past : Past) (asked : ℕ) (element parent : Element) → element.attempt ≤ policy.attempts
    → parent_in past element ≡ Some parent → Follows policy asked element parent → CameBefore past element → GoOnTests policy past asked element Twice
offered_twice policy past asked element parent few is follows twice =
    inr (
      few,
      subst (λ o. ParentTests policy asked element o (Test (¬ CameBefore past element) Twice NoTest) Twice) (sym is)
          (inr (follows.payload, inr (follows.first, inr (follows.expiry, inl ((λ once. once twice), refl))))),
    )

pub right_retry : (policy : Policy) (past : Past) (asked : ℕ) (element parent : Element) → element.attempt ≤ policy.attempts
    → parent_in past element ≡ Some parent → Follows policy asked element parent → ¬ CameBefore past element → GoesOn policy past asked element
right_retry policy past asked element parent few is follows once = record {
  attempts = few;
  parent = subst (λ o. IsSomeAnd o (Follows policy asked element)) (sym is) follows;
  once = once;
}

-- an event that offers an element is judged as that element is
pub linked_event : {X : Type 0} (policy : Policy) (past : Past) (event : Event) (element : Element) (r : Result X ChainReason) → event.act ≡ Offer element
    → MatchResult r (λ _. IsLinked policy past event.asked element) (LinkTests policy past event.asked element)
    → MatchResult r (λ _. EventIsLinked policy past event) (ChainTests policy past event)
linked_event policy past event element (Ok x) offers linked = λ other others.
    subst (λ (e : Element). IsLinked policy past event.asked e) (same_Offer element other (sym offers ∙ others)) linked
linked_event policy past event element (Err reason) offers tests = (element, offers, tests)

-- a parent is not the last attempt where its next one is among those of the policy
pub parent_below : (policy : Policy) (past : Past) (element parent : Element) → element.attempt ≤ policy.attempts → parent_in past element ≡ Some parent
    → parent.attempt < policy.attempts
parent_below policy past element parent few is = omega (arith, parent_before past element parent is, few)

-- what the index told of the element's own attempt
pub own_attempt : (past : Past) (element : Element) (attempt : Attempt) (told found : Bool) → attempt ≡ attempt_of element
    → told ≡ list_any (is_attempt attempt.origin attempt.number) past.offers → told ≡ found
    → list_any (is_attempt element.origin element.attempt) past.offers ≡ found
own_attempt past element attempt told found same tells is =
    ap (λ (a : Attempt). list_any (is_attempt a.origin a.number) past.offers) (sym same) ∙ sym tells ∙ is

-- payloads are compared with the zeros behind them
both_true : (a b : Bool) → false ≡ not (a && b) → (true ≡ a) × (true ≡ b)
both_true true true same = (refl, refl)
both_true true false same = absurd (cc)
both_true false b same = absurd (cc)

pub same_payload : (one other padding rest : List ℕ)
    → false ≡ not (pointwise nat_eq (one ++ padding) (other ++ rest) && nat_eq (length one) (length other)) → one ≡ other
same_payload one other padding rest same =
    let parts = both_true (pointwise nat_eq (one ++ padding) (other ++ rest)) (nat_eq (length one) (length other)) same in
    let long : nat_eq (length one) (length other) ≡ true = sym parts.1 in
    let lengths : length one ≡ length other = grind (arith, nat_tests) in
    sym (take_at one padding (length one) refl) ∙ ap (take (length one)) (same_text (one ++ padding) (other ++ rest) parts.0)
    ∙ take_at other rest (length one) (sym lengths)
