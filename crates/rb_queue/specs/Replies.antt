-- The reply to the caller of a history's last event.
use Rattle.std.specs.Prelude.{ℕ, ◌-◌, List, [], ◌∷◌, length, Option, Some, None, option_map, option_and_then, slice_get}
use Rattle.std.specs.FinMap as map
use Rattle.rb_delayed.specs.declared.element.Element.{Element}
use Rattle.rb_queue.specs.Bag.{Bag, bag_from}
use Rattle.rb_queue.specs.Effect.{Effect, inserts, gives, removes, empties, effect_of}
use Rattle.rb_queue.specs.declared.act.Act.{Act}
use Rattle.rb_queue.specs.declared.act.Act.TheVariants as acts
use Rattle.rb_queue.specs.declared.reply.Reply.{Reply}
use Rattle.rb_queue.specs.declared.reply.Reply.TheVariants.{Offered, Item, Nothing, Head}
use Rattle.rb_queue.specs.declared.reply.Reply.TheVariants.{Removed, Drained, Cleared, Size}
use Rattle.rb_queue.specs.declared.event.Event.{Event}
use Rattle.rb_queue.specs.declared.opening.Opening.{Opening}

-- the elements of these ids, in their order, if the bag has each
abbrev pub elements_in : Bag → List ℕ → Option (List Element)
elements_in bag [] = Some []
elements_in bag (id ∷ ids) =
    option_and_then (λ element. option_map (λ rest. element ∷ rest) (elements_in bag ids)) (map.get bag id)

-- the answer for the element of this id, and `Nothing` for no id
abbrev pub answer_in : Bag → (Element → Reply) → Option ℕ → Option Reply
answer_in bag answer None = Some Nothing
answer_in bag answer (Some id) = option_map answer (map.get bag id)

-- the reply that an act names, whose ids are those of elements in the bag
abbrev pub reply_in : Bag → Act → Option Reply
reply_in bag (acts.Offer element) = Some (Offered element)
reply_in bag (acts.Poll given) = answer_in bag Item given
reply_in bag (acts.Take id) = answer_in bag Item (Some id)
reply_in bag (acts.PollFor start timeout given) = answer_in bag Item given
reply_in bag (acts.Peek shown) = answer_in bag Head shown
reply_in bag (acts.Remove id found) = Some (Removed found)
reply_in bag (acts.Drain max ids) = option_map Drained (elements_in bag ids)
reply_in bag acts.Clear = Some Cleared
reply_in bag (acts.Size count) = Some (Size count)

-- the bag with the element that comes in
abbrev pub with_inserted : Bag → Effect → Bag
with_inserted bag (inserts element) = map.insert bag element.id element
with_inserted bag (gives ids) = bag
with_inserted bag (removes ids) = bag
with_inserted bag empties = bag

-- these elements and all that the events offered
abbrev pub offered_from : Bag → List Event → Bag
offered_from bag [] = bag
offered_from bag (event ∷ events) = offered_from (with_inserted bag (effect_of event.act)) events

-- every element that the opening had or the history offered, under its id
abbrev pub offered : Opening → List Event → Bag
offered opening history = offered_from (bag_from opening.elements) history

-- the reply to the last event, whose ids are those under which elements were offered
abbrev pub reply_of : Opening → List Event → Option Reply
reply_of opening history =
    option_and_then (λ event. reply_in (offered opening history) event.act) (slice_get history (length history - 1))
