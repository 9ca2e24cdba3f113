-- What stands in the queue was offered, so a reply that names what stands there is the history's.
use Rattle.std.proofs.Common.{◌≡◌, ◌≢◌, ℕ, ◌+◌, ◌-◌, List, [], ◌∷◌, ◌++◌, refl, sym, ap, ◌∙◌, arith, Option, Some, None, inl, inr, ◌⊎◌, length, length-append}
use Rattle.std.proofs.lemmas.Option.{slice_get-get_or}
use Rattle.std.proofs.Math.Seq.{get_or-append_seam}
use Rattle.std.specs.Prelude.{slice_get, option_map, option_and_then}
use Rattle.std.specs.FinMap as map
use Rattle.std.specs.FinMap.{get-empty}
use Rattle.std.specs.Ordering.{nat_cmp}
use Rattle.rb_delayed.specs.declared.element.Element.{Element}
use Rattle.rb_queue.specs.declared.act.Act.{Act}
use Rattle.rb_queue.specs.declared.act.Act.TheVariants as acts
use Rattle.rb_queue.specs.declared.event.Event.{Event}
use Rattle.rb_queue.specs.declared.opening.Opening.{Opening}
use Rattle.rb_queue.specs.declared.reply.Reply.{Reply}
use Rattle.rb_queue.specs.declared.reply.Reply.TheVariants.{Drained}
use Rattle.rb_queue.specs.Bag.{Bag}
use Rattle.rb_queue.specs.Queue.{Queue}
use Rattle.rb_queue.specs.Effect.{Effect, inserts, gives, removes, empties, effect_of, queue_after}
use Rattle.rb_queue.specs.History.{State, start_of, state_after, state_from, state_of}
use Rattle.rb_queue.specs.Replies.{elements_in, answer_in, reply_in, with_inserted, offered_from, offered, reply_of}
use Rattle.rb_queue.proofs.Options.{same_or_not}
use Rattle.rb_queue.proofs.Bags.{get_inserted_same, get_inserted_other}
use Rattle.rb_queue.proofs.Drains.{without_kept}

-- each element of the bag is in the other
abbrev pub IsWithin : Bag → Bag → Type 0
IsWithin bag all = (id : ℕ) (element : Element) → map.get bag id ≡ Some element → map.get all id ≡ Some element

within_after : (queue : Queue) (all : Bag) (effect : Effect) → IsWithin queue.bag all → IsWithin (queue_after queue effect).bag (with_inserted all effect)
within_after queue all (inserts new) within id element found = by_id (same_or_not id new.id)
  where
    by_id : (id ≡ new.id) ⊎ (id ≢ new.id) → map.get (map.insert all new.id new) id ≡ Some element
    by_id (inl same) =
        ap (map.get (map.insert all new.id new)) same ∙ get_inserted_same all new.id new
        ∙ sym (get_inserted_same queue.bag new.id new) ∙ sym (ap (map.get (map.insert queue.bag new.id new)) same) ∙ found
    by_id (inr differ) =
        get_inserted_other all new.id id new differ ∙ within id element (sym (get_inserted_other queue.bag new.id id new differ) ∙ found)
within_after queue all (gives ids) within id element found = within id element (without_kept queue.bag ids id element found)
within_after queue all (removes ids) within id element found = within id element (without_kept queue.bag ids id element found)
within_after queue all empties within id element found = let none = get-empty {X = Element} nat_cmp id in absurd (cc)

within_along : (from : State) (all : Bag) (events : List Event) → IsWithin from.queue.bag all → IsWithin (state_from from events).queue.bag (offered_from all events)
within_along from all [] within = within
within_along from all (event ∷ events) within =
    within_along (state_after from event) (with_inserted all (effect_of event.act)) events (within_after from.queue all (effect_of event.act) within)

-- what stands in the queue of a history was offered under its id
pub standing_offered : (opening : Opening) (history : List Event) → IsWithin (state_of opening history).queue.bag (offered opening history)
standing_offered opening history = within_along (start_of opening) (start_of opening).queue.bag history (λ id element found. found)

elements_in_larger : (bag all : Bag) (ids : List ℕ) (elements : List Element) → IsWithin bag all → elements_in bag ids ≡ Some elements → elements_in all ids ≡ Some elements
elements_in_larger bag all [] elements within found = found
elements_in_larger bag all (id ∷ ids) elements within found =
    larger (map.get bag id) (elements_in bag ids) (λ element. within id element) (λ es rest. elements_in_larger bag all ids es within rest) found
  where
    larger : (here : Option Element) (rest : Option (List Element)) → ((element : Element) → here ≡ Some element → map.get all id ≡ Some element)
        → ((es : List Element) → rest ≡ Some es → elements_in all ids ≡ Some es)
        → option_and_then (λ e. option_map (λ r. e ∷ r) rest) here ≡ Some elements
        → option_and_then (λ e. option_map (λ r. e ∷ r) (elements_in all ids)) (map.get all id) ≡ Some elements
    larger None rest there more whole = absurd (cc)
    larger (Some e) None there more whole = absurd (cc)
    larger (Some e) (Some es) there more whole =
        ap (option_and_then (λ x. option_map (λ r. x ∷ r) (elements_in all ids))) (there e refl)
        ∙ ap (option_map (λ r. e ∷ r)) (more es refl) ∙ whole

answer_in_larger : (bag all : Bag) (answer : Element → Reply) (given : Option ℕ) (reply : Reply) → IsWithin bag all → answer_in bag answer given ≡ Some reply → answer_in all answer given ≡ Some reply
answer_in_larger bag all answer None reply within found = found
answer_in_larger bag all answer (Some id) reply within found = larger (map.get bag id) (λ element. within id element) found
  where
    larger : (here : Option Element) → ((element : Element) → here ≡ Some element → map.get all id ≡ Some element) → option_map answer here ≡ Some reply → option_map answer (map.get all id) ≡ Some reply
    larger None there whole = absurd (cc)
    larger (Some e) there whole = ap (option_map answer) (there e refl) ∙ whole

-- a reply that names what the bag has is named by all that was offered, the act itself too
reply_in_larger : (bag all : Bag) (act : Act) (reply : Reply) → IsWithin bag all → reply_in bag act ≡ Some reply → reply_in (with_inserted all (effect_of act)) act ≡ Some reply
reply_in_larger bag all (acts.Poll given) reply within found = answer_in_larger bag all _ given reply within found
reply_in_larger bag all (acts.Take id) reply within found = answer_in_larger bag all _ (Some id) reply within found
reply_in_larger bag all (acts.PollFor start timeout given) reply within found = answer_in_larger bag all _ given reply within found
reply_in_larger bag all (acts.Peek shown) reply within found = answer_in_larger bag all _ shown reply within found
reply_in_larger bag all (acts.Drain max ids) reply within found = drained (elements_in bag ids) (λ es. elements_in_larger bag all ids es within) found
  where
    drained : (here : Option (List Element)) → ((es : List Element) → here ≡ Some es → elements_in all ids ≡ Some es) → option_map Drained here ≡ Some reply → option_map Drained (elements_in all ids) ≡ Some reply
    drained None there whole = absurd (cc)
    drained (Some es) there whole = ap (option_map Drained) (there es refl) ∙ whole
reply_in_larger bag all act reply within found = found

-- one event more offers what its act inserts
offered_from-append : (all : Bag) (events : List Event) (event : Event) → offered_from all (events ++ event ∷ []) ≡ with_inserted (offered_from all events) (effect_of event.act)
offered_from-append all [] event = refl
offered_from-append all (first ∷ events) event = offered_from-append (with_inserted all (effect_of first.act)) events event

-- the last event of a history
last_event : (history : List Event) (event : Event) → slice_get (history ++ event ∷ []) (length (history ++ event ∷ []) - 1) ≡ Some event
last_event history event =
    let len : length (history ++ event ∷ []) ≡ length history + 1 = length-append history (event ∷ []) in
    let at : length (history ++ event ∷ []) - 1 ≡ length history = omega (arith, len) in
    ap (slice_get (history ++ event ∷ [])) at ∙ slice_get-get_or (history ++ event ∷ []) (length history) event (omega (arith, len))
    ∙ ap Some (get_or-append_seam history event [] event)

-- what the last event's act names in the queue before it is its reply
pub reply_of_last : (opening : Opening) (history : List Event) (event : Event) (reply : Reply) → reply_in (state_of opening history).queue.bag event.act ≡ Some reply
    → reply_of opening (history ++ event ∷ []) ≡ Some reply
reply_of_last opening history event reply named =
    ap (option_and_then (λ (e : Event). reply_in (offered opening (history ++ event ∷ [])) e.act)) (last_event history event)
    ∙ ap (λ all. reply_in all event.act) (offered_from-append (start_of opening).queue.bag history event)
    ∙ reply_in_larger (state_of opening history).queue.bag (offered opening history) event.act reply (standing_offered opening history) named
