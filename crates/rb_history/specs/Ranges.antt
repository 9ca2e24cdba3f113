-- The values that an event and an opening may have: numbers of 64 bits, and payloads.
use Rattle.std.specs.Prelude.{ℕ, ◌^◌, ◌<◌, All, List, [], ◌∷◌, Option, None, Some}
use Rattle.rb_delayed.specs.Payload.{IsPayload}
use Rattle.rb_delayed.specs.declared.element.Element.{Element}
use Rattle.rb_queue.specs.declared.act.Act.{Act}
use Rattle.rb_queue.specs.declared.act.Act.TheVariants.{Offer, Poll, Take, PollFor, Peek, Remove, Drain, Clear, Size}
use Rattle.rb_queue.specs.declared.event.Event.{Event}
use Rattle.rb_queue.specs.declared.opening.Opening.{Opening}
use Rattle.rb_history.specs.declared.history.History.{History}

abbrev pub IsWord : ℕ → Type 0
IsWord number = number < 2 ^ 64

abbrev pub AreWords : List ℕ → Type 0
AreWords [] = Unit {0}
AreWords (number ∷ numbers) = IsWord number × AreWords numbers

pub record IsRightElement (element : Element) : Type 0 where
  pub id : IsWord element.id
  pub expiry : IsWord element.expiry
  pub origin : IsWord element.origin
  pub first : IsWord element.first
  pub payload : IsPayload element.payload

abbrev pub IsRightGiven : Option ℕ → Type 0
IsRightGiven None = Unit {0}
IsRightGiven (Some id) = IsWord id

abbrev pub IsRightAct : Act → Type 0
IsRightAct (Offer element) = IsRightElement element
IsRightAct (Poll given) = IsRightGiven given
IsRightAct (Take id) = IsWord id
IsRightAct (PollFor start timeout given) = IsWord start × IsWord timeout × IsRightGiven given
IsRightAct (Peek shown) = IsRightGiven shown
IsRightAct (Remove id found) = IsWord id
IsRightAct (Drain max ids) = IsWord max × AreWords ids
IsRightAct Clear = Unit {0}
IsRightAct (Size count) = IsWord count

pub record IsRightEvent (event : Event) : Type 0 where
  pub seat : IsWord event.seat
  pub asked : IsWord event.asked
  pub at : IsWord event.at
  pub act : IsRightAct event.act

abbrev pub AreRightElements : List Element → Type 0
AreRightElements elements = All IsRightElement elements

abbrev pub AreRightEvents : List Event → Type 0
AreRightEvents events = All IsRightEvent events

pub record IsRightOpening (opening : Opening) : Type 0 where
  pub last_at : IsWord opening.last_at
  pub elements : AreRightElements opening.elements

-- all values of a history are in their ranges
abbrev pub IsRightHistory : History → Type 0
IsRightHistory history = IsRightOpening history.opening × AreRightEvents history.events
