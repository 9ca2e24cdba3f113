-- How the check of retries stores what came before an offer. No public clause cites this module.
use Rattle.std.specs.Prelude.{◌≡◌, ℕ, ◌+◌, ◌<◌, ◌≤◌, ◌==◌, true, if◌then◌else◌, List, [], ◌∷◌}
use Rattle.std.specs.Prelude.{◌++◌, length, Option, Some, None, option_map, option_and_then}
use Rattle.std.specs.Bool.{then_some}
use Rattle.std.specs.Option.{option_or}
use Rattle.std.specs.declared.cmp.Ordering.{Ordering}
use Rattle.std.specs.Ordering.{nat_cmp, ordering_then}
use Rattle.std.specs.List.{find, list_any, filter_map}
use Rattle.std.specs.FinMap as map
use Rattle.std.specs.BTreeMap as tree
use Rattle.std.specs.BTreeMap.{is_at}
use Rattle.std.specs.BTreeSet as set
use Rattle.std.specs.BTreeSet.{BTreeSet}
use Rattle.rb_delayed.specs.declared.element.Element.{Element}
use Rattle.rb_queue.specs.Bag.{Bag}
use Rattle.rb_queue.specs.Effect.{effect_of, inserted, given}
use Rattle.rb_queue.specs.Replies.{with_inserted}
use Rattle.rb_queue.specs.declared.act.Act.{Act}
use Rattle.rb_queue.specs.declared.act.Act.TheVariants.{Offer}
use Rattle.rb_queue.specs.declared.event.Event.{Event}
use Rattle.rb_retry.specs.declared.policy.Policy.{Policy}
use Rattle.rb_replay.specs.Links.{Past, is_attempt, IsLinked}
use Rattle.rb_replay.specs.LinkTests.{LinkTests}
use Rattle.rb_replay.specs.declared.chain_reason.ChainReason.{ChainReason}
use Rattle.rb_replay.specs.declared.offered_element.OfferedElement.{OfferedElement}
use Rattle.rb_replay.specs.declared.attempt.Attempt.{Attempt}
use Rattle.rb_replay.specs.declared.attempt_index.AttemptIndex.{AttemptIndex}

-- the order of attempts: by their jobs, and then by their numbers
abbrev pub attempt_cmp : Attempt → Attempt → Ordering
attempt_cmp one other = ordering_then (nat_cmp one.origin other.origin) (nat_cmp one.number other.number)

-- which attempt an element is
abbrev pub attempt_of : Element → Attempt
attempt_of element = record { origin = element.origin; number = element.attempt }

-- the offer under an id, if the ids follow one another from `first` on
abbrev pub offer_at : ℕ → List OfferedElement → ℕ → Option OfferedElement
offer_at first [] id = None
offer_at first (offer ∷ offers) id = if id == first then Some offer else offer_at (first + 1) offers id

-- the offer that the index has under the id
abbrev pub offer_of : AttemptIndex → ℕ → Option OfferedElement
offer_of attempts id = offer_at attempts.first_id attempts.offers.items id

-- the id that the next offer gives out
abbrev pub next_id_of : AttemptIndex → ℕ
next_id_of attempts = attempts.first_id + length attempts.offers.items

-- an offer of the index is at this place, and has this id
pub record IsPlaceOf (attempts : AttemptIndex) (id place : ℕ) : Type 0 where
  pub within : place < length attempts.offers.items
  pub placed : attempts.first_id + place ≡ id

-- the element that came in under the id
abbrev pub element_of : AttemptIndex → ℕ → Option Element
element_of attempts id =
    option_or (option_map (λ offer. offer.element) (offer_of attempts id)) (tree.get nat_cmp attempts.opened id)

-- the element of the offer, if it was given first of its attempt
abbrev pub first_given_in : OfferedElement → Option Element
first_given_in offer = then_some offer.is_given_first offer.element

-- the element that began the attempt's job, if this is its first attempt and that element was given first
abbrev pub begun : AttemptIndex → Attempt → Option Element
begun attempts attempt =
    if attempt.number == 1 then option_and_then first_given_in (offer_of attempts attempt.origin) else None

-- the element that was given first of the attempt
abbrev pub given_first : AttemptIndex → Attempt → Option Element
given_first attempts attempt = option_or (begun attempts attempt) (tree.get attempt_cmp attempts.given attempt)

-- the index has what came in under its id, whether a later attempt came in, and which of an attempt was given first
pub record Recalls (came : Bag) (past : Past) (attempts : AttemptIndex) : Type 0 where
  pub elements : (id : ℕ) → element_of attempts id ≡ map.get came id
  pub offered : (attempt : Attempt) → 2 ≤ attempt.number → set.contains attempt_cmp attempts.offered attempt
      ≡ list_any (is_attempt attempt.origin attempt.number) past.offers
  pub given : (attempt : Attempt) → given_first attempts attempt
      ≡ find (is_attempt attempt.origin attempt.number) past.given

-- an act that offers an element gives it the next id
abbrev pub IsNext : Act → AttemptIndex → Type 0
IsNext act attempts = (element : Element) → act ≡ Offer element → element.id ≡ next_id_of attempts

-- what came before, with the element that an act offers and those that it gives
abbrev pub past_after : Bag → Past → Act → Past
past_after came past act = record {
  offers = past.offers ++ inserted (effect_of act);
  given = past.given ++ filter_map (map.get came) (given (effect_of act));
}

-- the index has also the act
pub record Keeps (act : Act) (old new : AttemptIndex) : Type 0 where
  pub recalls : (came : Bag) (past : Past) → Recalls came past old
      → Recalls (with_inserted came (effect_of act)) (past_after came past act) new
  pub next_id : next_id_of new ≡ next_id_of old + length (inserted (effect_of act))

-- the attempt, if it is a retry, is marked too
abbrev pub MarksRetry : Attempt → BTreeSet Attempt → BTreeSet Attempt → Type 0
MarksRetry attempt old new = (other : Attempt) → 2 ≤ other.number → set.contains attempt_cmp new other
    ≡ (if is_at (attempt_cmp attempt) other then true else set.contains attempt_cmp old other)

-- the index has one more element that came in
abbrev pub RecallsOffer : Element → AttemptIndex → AttemptIndex → Type 0
RecallsOffer element old new = (came : Bag) (past : Past) → Recalls came past old
    → Recalls (map.insert came element.id element) (record past { offers = past.offers ++ element ∷ [] }) new

-- the index has one more element that was there at the start
pub record KeepsOpened (element : Element) (old new : AttemptIndex) : Type 0 where
  pub recalls : RecallsOffer element old new
  pub offers : new.offers ≡ old.offers
  pub first_id : new.first_id ≡ old.first_id

-- the index has one more element that was offered
pub record KeepsOffer (element : Element) (old new : AttemptIndex) : Type 0 where
  pub recalls : RecallsOffer element old new
  pub next_id : next_id_of new ≡ next_id_of old + 1

-- the index has as given those of these ids that came in
pub record KeepsGiven (ids : List ℕ) (old new : AttemptIndex) : Type 0 where
  pub recalls : (came : Bag) (past : Past) → Recalls came past old
      → Recalls came (record past { given = past.given ++ filter_map (map.get came) ids }) new
  pub next_id : next_id_of new ≡ next_id_of old

-- the element that the event offers, if it offers one, is linked
abbrev pub EventIsLinked : Policy → Past → Event → Type 0
EventIsLinked policy past event =
    (element : Element) → event.act ≡ Offer element → IsLinked policy past event.asked element

-- the event offers an element that is not linked, for this reason
abbrev pub ChainTests : Policy → Past → Event → ChainReason → Type 0
ChainTests policy past event reason =
    (element : Element) × (event.act ≡ Offer element) × LinkTests policy past event.asked element reason
