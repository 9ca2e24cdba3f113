-- The opening of a run that continues a history.
use Rattle.std.specs.Prelude.{◌≡◌, ◌⊎◌, ℕ, List, Result, Ok, Err}
use Rattle.rb_queue.specs.History.{IsLegal, state_of}
use Rattle.rb_queue.specs.declared.event.Event.{Event}
use Rattle.rb_queue.specs.declared.opening.Opening.{Opening}
use Rattle.rb_replay.specs.Opens.{IsTooLarge, Opens}
use Rattle.rb_history.specs.Readings.{IsTextOf}
use Rattle.rb_replay.specs.Refusal.{Refuses}
use Rattle.rb_history.specs.TextFaults.{HasFault}
use Rattle.rb_replay.specs.declared.reason.Reason.{Reason}
use Rattle.rb_history.specs.declared.text_fault.TextReason.{TextReason}
use Rattle.rb_ending.specs.declared.broker_fault.BrokerFault.{BrokerFault}
use Rattle.rb_ending.specs.declared.broker_fault.BrokerFault.TheVariants.{BadOpening, Memory}

-- the history is refused for an event that is not allowed, or leads past a limit of openings
abbrev pub HasNoNext : Opening → List Event → Type 0
HasNoNext from events = ((index : ℕ) × (reason : Reason) × Refuses from events index reason)
    ⊎ (IsLegal from events × IsTooLarge (state_of from events))

-- a run that continues this history begins in the state that it leads to, or none can continue it
abbrev pub Continues : Opening → List Event → Result Opening BrokerFault → Type 0
Continues from events (Ok opening) = Opens from events (Ok opening)
Continues from events (Err BadOpening) = HasNoNext from events
Continues from events (Err fault) = fault ≡ Memory

-- the text has a first fault
abbrev pub IsUnreadable : List ℕ → Type 0
IsUnreadable text = (line : ℕ) × (reason : TextReason) × HasFault text line reason

-- the text is of a history that a run continues so
abbrev pub GoesOnIn : List ℕ → Result Opening BrokerFault → Type 0
GoesOnIn text result =
    (from : Opening) × (events : List Event) × IsTextOf from events text × Continues from events result

-- the opening of a run that continues the text's history, or why there is none
abbrev pub BeginsIn : List ℕ → Result Opening BrokerFault → Type 0
BeginsIn text (Ok opening) = GoesOnIn text (Ok opening)
BeginsIn text (Err BadOpening) = IsUnreadable text ⊎ GoesOnIn text (Err BadOpening)
BeginsIn text (Err fault) = fault ≡ Memory
