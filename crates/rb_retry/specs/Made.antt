-- What was made through a desk: events, each with its reply.
use Rattle.std.specs.Prelude.{ℕ, ◌==◌, ◌≤◌, List, [], ◌∷◌, ◌++◌, filter, Option, Some, None}
use Rattle.rb_queue.specs.Leaving.{times}
use Rattle.rb_queue.specs.Opening.{ids_of}
use Rattle.rb_queue.specs.Replies.{reply_of}
use Rattle.rb_queue.specs.declared.event.Event.{Event}
use Rattle.rb_queue.specs.declared.opening.Opening.{Opening}
use Rattle.rb_queue.specs.declared.reply.Reply.{Reply}
use Rattle.rb_queue.specs.declared.reply.Reply.TheVariants.{Item, Drained}

-- an event, and the reply to its caller
pub record Made : Type 0 where
  pub event : Event
  pub reply : Option Reply

-- these events, which follow the ones before, each with its reply
abbrev pub made_after : Opening → List Event → List Event → List Made
made_after opening before [] = []
made_after opening before (event ∷ events) =
    record { event = event; reply = reply_of opening (before ++ event ∷ []) }
    ∷ made_after opening (before ++ event ∷ []) events

-- the events of one seat in a history, each with its reply
abbrev pub made_by : ℕ → Opening → List Event → List Made
made_by seat opening history = filter (λ (made : Made). made.event.seat == seat) (made_after opening [] history)

-- the ids of the elements that a reply gives
abbrev pub ids_given : Reply → List ℕ
ids_given (Item element) = element.id ∷ []
ids_given (Drained items) = ids_of items
ids_given _ = []

-- the same, if there was a reply
abbrev pub ids_with : Option Reply → List ℕ
ids_with None = []
ids_with (Some reply) = ids_given reply

-- the ids that were given by these events, one after the other
abbrev pub given_by : List Made → List ℕ
given_by [] = []
given_by (made ∷ mades) = ids_with made.reply ++ given_by mades

-- no id is given twice
abbrev pub GivesOnce : List Made → Type 0
GivesOnce mades = (id : ℕ) → times id (given_by mades) ≤ 1
