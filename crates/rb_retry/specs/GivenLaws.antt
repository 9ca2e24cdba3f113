-- In a legal history no id is given twice. No public clause cites this module.
use Rattle.std.proofs.Common.{◌≡◌, ◌≢◌, ℕ, ◌+◌, ◌≤◌, Bool, true, false, cond, List, [], ◌∷◌, ◌++◌, refl, sym, ap, ap₂}
use Rattle.std.proofs.Common.{◌∙◌, arith, Option, Some, None, inl, inr, ◌⊎◌, append_assoc, take, drop, nat_eq}
use Rattle.std.proofs.lemmas.List.{take-append-drop}
use Rattle.std.proofs.lemmas.List.Sums.{sum_by-append}
use Rattle.std.proofs.lemmas.Option.{same_Some, none-some}
use Rattle.std.specs.Prelude.{filter, option_map, option_and_then}
use Rattle.std.specs.FinMap as map
use Rattle.std.specs.FinMap.{get-empty}
use Rattle.std.specs.Ordering.{nat_cmp}
use Rattle.rb_delayed.specs.declared.element.Element.{Element}
use Rattle.rb_queue.specs.Bag.{Bag, bag_from}
use Rattle.rb_queue.specs.Effect.{Effect, inserts, gives, removes, empties, effect_of, given}
use Rattle.rb_queue.specs.History.{State, start_of, state_after, IsLegal}
use Rattle.rb_queue.specs.Leaving.{times, leavings_of, leaving_times_from}
use Rattle.rb_queue.specs.Opening.{ids_of}
use Rattle.rb_queue.specs.Replies.{elements_in, reply_in, with_inserted, offered_from, offered, reply_of}
use Rattle.rb_queue.specs.declared.act.Act.{Act}
use Rattle.rb_queue.specs.declared.act.Act.TheVariants as acts
use Rattle.rb_queue.specs.declared.event.Event.{Event}
use Rattle.rb_queue.specs.declared.opening.Opening.{Opening}
use Rattle.rb_queue.specs.declared.reply.Reply.{Reply}
use Rattle.rb_queue.specs.declared.reply.Reply.TheVariants as replies
use Rattle.rb_queue.proofs.Options.{same_or_not}
use Rattle.rb_queue.proofs.Bags.{get_inserted_same, get_inserted_other}
use Rattle.rb_queue.proofs.Leavings.{leaves_once}
use Rattle.rb_retry.specs.Made.{Made, made_after, ids_given, ids_with, given_by, GivesOnce}
use Rattle.rb_retry.specs.RecordLaws.{last_of, of_found, made_after-more}

-- each element of the bag is under its own id
abbrev IsNamed : Bag → Type 0
IsNamed bag = (id : ℕ) (element : Element) → map.get bag id ≡ Some element → element.id ≡ id

named_inserted : (bag : Bag) (new : Element) → IsNamed bag → IsNamed (map.insert bag new.id new)
named_inserted bag new named id element found = by_id (same_or_not id new.id)
  where
    by_id : (id ≡ new.id) ⊎ (id ≢ new.id) → element.id ≡ id
    by_id (inl same) =
        let is : Some new ≡ Some element =
        sym (get_inserted_same bag new.id new) ∙ sym (ap (map.get (map.insert bag new.id new)) same) ∙ found in
        ap (λ (e : Element). e.id) (sym (same_Some new element is)) ∙ sym same
    by_id (inr differ) = named id element (sym (get_inserted_other bag new.id id new differ) ∙ found)

named_from : (elements : List Element) → IsNamed (bag_from elements)
named_from [] id element found = absurd (none-some element (sym (get-empty {X = Element} nat_cmp id) ∙ found))
named_from (first ∷ elements) id element found =
    named_inserted (bag_from elements) first (named_from elements) id element found

named_after : (all : Bag) (effect : Effect) → IsNamed all → IsNamed (with_inserted all effect)
named_after all (inserts element) named = named_inserted all element named
named_after all (gives ids) named = named
named_after all (removes ids) named = named
named_after all empties named = named

-- each offered element is under its own id
named_offered : (all : Bag) (events : List Event) → IsNamed all → IsNamed (offered_from all events)
named_offered all [] named = named
named_offered all (event ∷ events) named =
    named_offered (with_inserted all (effect_of event.act)) events (named_after all (effect_of event.act) named)

-- the elements that are found have the ids that were named
ids_of_found : (bag : Bag) (ids : List ℕ) (elements : List Element) → IsNamed bag
    → elements_in bag ids ≡ Some elements → ids_of elements ≡ ids
ids_of_found bag [] elements named found = ap ids_of (sym (same_Some [] elements found))
ids_of_found bag (id ∷ ids) elements named found =
    more (map.get bag id) (elements_in bag ids) (named id) (λ es. ids_of_found bag ids es named) found
  where
    more : (here : Option Element) (rest : Option (List Element)) → ((e : Element) → here ≡ Some e → e.id ≡ id)
        → ((es : List Element) → rest ≡ Some es → ids_of es ≡ ids)
        → option_and_then (λ e. option_map (λ r. e ∷ r) rest) here ≡ Some elements → ids_of elements ≡ id ∷ ids
    more None rest is step whole = absurd (cc)
    more (Some e) None is step whole = absurd (cc)
    more (Some e) (Some es) is step whole =
        ap ids_of (sym (same_Some (e ∷ es) elements whole))
        ∙ ap₂ (λ (one : ℕ) (others : List ℕ). one ∷ others) (is e refl) (step es refl)

one_given : (bag : Bag) (id : ℕ) (reply : Reply) → IsNamed bag → option_map replies.Item (map.get bag id) ≡ Some reply
    → ids_given reply ≡ id ∷ []
one_given bag id reply named =
    of_found (λ said. ids_given said ≡ id ∷ []) (map.get bag id) replies.Item reply
    (λ element is. ap (λ (one : ℕ). one ∷ []) (named id element is))

-- a reply that is known gives what it names
said_given : (said reply : Reply) → Some said ≡ Some reply → ids_given reply ≡ ids_given said
said_given said reply found = ap ids_given (sym (same_Some said reply found))

-- a reply gives what the act gives
gives_named : (bag : Bag) (act : Act) (reply : Reply) → IsNamed bag → reply_in bag act ≡ Some reply
    → ids_given reply ≡ given (effect_of act)
gives_named bag (acts.Offer element) reply named found = said_given (replies.Offered element) reply found
gives_named bag (acts.Poll None) reply named found = said_given replies.Nothing reply found
gives_named bag (acts.Poll (Some id)) reply named found = one_given bag id reply named found
gives_named bag (acts.Take id) reply named found = one_given bag id reply named found
gives_named bag (acts.PollFor start timeout None) reply named found = said_given replies.Nothing reply found
gives_named bag (acts.PollFor start timeout (Some id)) reply named found = one_given bag id reply named found
gives_named bag (acts.Peek None) reply named found = said_given replies.Nothing reply found
gives_named bag (acts.Peek (Some id)) reply named found =
    of_found (λ said. ids_given said ≡ []) (map.get bag id) replies.Head reply (λ element is. refl) found
gives_named bag (acts.Remove id there) reply named found = said_given (replies.Removed there) reply found
gives_named bag (acts.Drain most ids) reply named found =
    of_found (λ said. ids_given said ≡ ids) (elements_in bag ids) replies.Drained reply
    (λ items is. ids_of_found bag ids items named is) found
gives_named bag acts.Clear reply named found = said_given replies.Cleared reply found
gives_named bag (acts.Size count) reply named found = said_given (replies.Size count) reply found

pub times_append : (id : ℕ) (one two : List ℕ) → times id (one ++ two) ≡ times id one + times id two
times_append id one two = sum_by-append (λ (other : ℕ). cond (nat_eq other id) 1 0) one two

given_by-append : (one two : List Made) → given_by (one ++ two) ≡ given_by one ++ given_by two
given_by-append [] two = refl
given_by-append (made ∷ one) two =
    ap (λ (ids : List ℕ). ids_with made.reply ++ ids) (given_by-append one two)
    ∙ sym (append_assoc (ids_with made.reply) (given_by one) (given_by two))

pub times_given-append : (id : ℕ) (one two : List Made)
    → times id (given_by (one ++ two)) ≡ times id (given_by one) + times id (given_by two)
times_given-append id one two = ap (times id) (given_by-append one two) ∙ times_append id (given_by one) (given_by two)

-- a part of them gives no id more often than all
pub times_given-drop : (id count : ℕ) (mades : List Made)
    → times id (given_by (drop count mades)) ≤ times id (given_by mades)
times_given-drop id count mades =
    omega (
      arith,
      times_given-append id (take count mades) (drop count mades),
      ap (λ (ms : List Made). times id (given_by ms)) (take-append-drop count mades),
    )

pub times_given-filter : (id : ℕ) (test : Made → Bool) (mades : List Made)
    → times id (given_by (filter test mades)) ≤ times id (given_by mades)
times_given-filter id test [] = omega arith
times_given-filter id test (made ∷ mades) = by_test (test made) (times_given-filter id test mades)
  where
    by_test : (keeps : Bool) → times id (given_by (filter test mades)) ≤ times id (given_by mades)
        → times id (given_by (cond keeps (made ∷ filter test mades) (filter test mades)))
        ≤ times id (given_by (made ∷ mades))
    by_test true fewer =
        omega (
          arith,
          fewer,
          times_append id (ids_with made.reply) (given_by (filter test mades)),
          times_append id (ids_with made.reply) (given_by mades),
        )
    by_test false fewer = omega (arith, fewer, times_append id (ids_with made.reply) (given_by mades))

-- what is given leaves
given_leaves : (id : ℕ) (bag : Bag) (effect : Effect) → times id (given effect) ≤ leavings_of id bag effect
given_leaves id bag (inserts element) = omega arith
given_leaves id bag (gives ids) = omega arith
given_leaves id bag (removes ids) = omega arith
given_leaves id bag empties = omega arith

reply_leaves : (id : ℕ) (bag : Bag) (opening : Opening) (before : List Event) (event : Event)
    → times id (ids_with (reply_of opening (before ++ event ∷ []))) ≤ leavings_of id bag (effect_of event.act)
reply_leaves id bag opening before event = by_reply (reply_of opening (before ++ event ∷ [])) refl
  where
    all : Bag
    all = offered opening (before ++ event ∷ [])

    by_reply : (reply : Option Reply) → reply_of opening (before ++ event ∷ []) ≡ reply
        → times id (ids_with reply) ≤ leavings_of id bag (effect_of event.act)
    by_reply None is = omega arith
    by_reply (Some reply) is =
        let found : reply_in all event.act ≡ Some reply =
        sym (ap (option_and_then (λ (e : Event). reply_in all e.act)) (last_of before event)) ∙ is in
        let named : IsNamed all =
        named_offered (bag_from opening.elements) (before ++ event ∷ []) (named_from opening.elements) in
        omega (
          arith,
          ap (times id) (gives_named all event.act reply named found),
          given_leaves id bag (effect_of event.act),
        )

-- no id is given more often than it leaves
given_along : (id : ℕ) (opening : Opening) (before events : List Event) (from : State)
    → times id (given_by (made_after opening before events)) ≤ leaving_times_from from events id
given_along id opening before [] from = omega arith
given_along id opening before (event ∷ events) from =
    let here = reply_leaves id from.queue.bag opening before event in
    let rest = given_along id opening (before ++ event ∷ []) events (state_after from event) in
    omega (
      arith,
      here,
      rest,
      times_append id (ids_with (reply_of opening (before ++ event ∷ [])))
          (given_by (made_after opening (before ++ event ∷ []) events)),
    )

-- so no id is given twice
pub legal_gives_once : (opening : Opening) (history : List Event) → IsLegal opening history
    → GivesOnce (made_after opening [] history)
legal_gives_once opening history legal id =
    omega (arith, given_along id opening [] history (start_of opening), leaves_once opening history id legal)

-- the events that follow the first ones give no id twice either
pub later_gives_once : (opening : Opening) (before events : List Event) → IsLegal opening (before ++ events)
    → GivesOnce (made_after opening before events)
later_gives_once opening before events legal id =
    omega (
      arith,
      legal_gives_once opening (before ++ events) legal id,
      ap (λ (ms : List Made). times id (given_by ms)) (made_after-more opening [] before events),
      times_given-append id (made_after opening [] before) (made_after opening before events),
    )
