-- Which histories are chained, and what the check of retries answers.
use Rattle.std.specs.Prelude.{◌≡◌, ℕ, List, ◌∷◌, ◌++◌, length, Result, Ok, Err}
use Rattle.rb_delayed.specs.declared.element.Element.{Element}
use Rattle.rb_queue.specs.declared.act.Act.TheVariants.{Offer}
use Rattle.rb_queue.specs.declared.event.Event.{Event}
use Rattle.rb_queue.specs.declared.opening.Opening.{Opening}
use Rattle.rb_retry.specs.declared.policy.Policy.{Policy}
use Rattle.rb_history.specs.Offers.{offers_in}
use Rattle.rb_replay.specs.GivenElements.{elements_given}
use Rattle.rb_replay.specs.Links.{Past, IsLinked}
use Rattle.rb_replay.specs.LinkTests.{LinkTests}
use Rattle.rb_replay.specs.declared.chain_fault.ChainFault.{ChainFault}
use Rattle.rb_replay.specs.declared.chain_fault.ChainFault.TheVariants.{At, Memory}
use Rattle.rb_replay.specs.declared.chain_reason.ChainReason.{ChainReason}

-- what was there at the start, what these events offered, and what they gave
abbrev pub past_of : Opening → List Event → Past
past_of opening events = record {
  offers = opening.elements ++ offers_in events;
  given = elements_given opening events;
}

-- A history is chained if each offered element is linked to the events before it.
pub record IsChained (policy : Policy) (opening : Opening) (history : List Event) : Type 0 where
  pub linked : (front behind : List Event) (event : Event) (element : Element)
      → history ≡ front ++ event ∷ behind → event.act ≡ Offer element
      → IsLinked policy (past_of opening front) event.asked element

-- The events before it are chained, and the element that this one offers is not linked to them, for
-- this reason.
pub record Unchains (policy : Policy) (opening : Opening) (events : List Event) (index : ℕ)
    (reason : ChainReason) : Type 0 where
  pub front : List Event
  pub event : Event
  pub element : Element
  pub behind : List Event
  pub split : events ≡ front ++ event ∷ behind
  pub placed : length front ≡ index
  pub chained : IsChained policy opening front
  pub offered : event.act ≡ Offer element
  pub unlinked : ¬ IsLinked policy (past_of opening front) event.asked element
  pub first : LinkTests policy (past_of opening front) event.asked element reason

-- the history is chained, or this is the first offer that is not linked, with the first reason
abbrev pub Chains : Policy → Opening → List Event → Result (Unit {0}) ChainFault → Type 0
Chains policy opening events (Ok done) = IsChained policy opening events
Chains policy opening events (Err (At index reason)) = Unchains policy opening events index reason
Chains policy opening events (Err Memory) = Unit {0}
