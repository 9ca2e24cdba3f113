-- What contracts see of a kept queue: its opening and its history, which determine the queue, and how
-- long the history may get.
use Rattle.std.specs.Prelude.{◌≡◌, ℕ, ◌<◌, List, [], ◌∷◌, ◌++◌, length, refl}
use Rattle.std.specs.Coded.{Coded, code_by, coded×, coded_ℕ, coded_list}
use Rattle.rb_queue.specs.History.{State, state_of}
use Rattle.rb_queue.specs.declared.event.Event.{Event}
use Rattle.rb_queue.specs.declared.opening.Opening.{Opening}
use Rattle.rb_queue.specs.contracts.event.Event as event
use Rattle.rb_queue.specs.contracts.opening.Opening as opening

pub record Log : Type 0 where
  pub opening : Opening
  pub history : List Event
  pub capacity : ℕ

-- a log is stored as the tuple of its fields
abbrev pub log_code : Coded Log
log_code =
    code_by
    (Opening × (List Event × ℕ))
    (coded× opening.the_row.coded (coded× (coded_list event.the_row.coded) coded_ℕ))
    (λ log. (log.opening, (log.history, log.capacity)))
    (λ p. record { opening = p.0; history = p.1.0; capacity = p.1.1 })
    (λ _. refl)

-- the state that the history leads to
abbrev pub state_at : Log → State
state_at log = state_of log.opening log.history

-- there is room for one more event
abbrev pub HasRoom : Log → Type 0
HasRoom log = length log.history < log.capacity

-- the history has as many events as there is room for
abbrev pub IsFull : Log → Type 0
IsFull log = length log.history ≡ log.capacity

-- the log with these events after its own
abbrev pub with_events : Log → List Event → Log
with_events log events = record log { history = log.history ++ events }

-- the log with one more event
abbrev pub with_event : Log → Event → Log
with_event log event = with_events log (event ∷ [])
