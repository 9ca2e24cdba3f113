-- What an ask may get at a desk.
use Rattle.std.specs.Prelude.{◌≡◌, ℕ, ◌≤◌, List, [], ◌∷◌, ◌++◌, length, Some, Result, Ok, Err}
use Rattle.rb_delayed.specs.declared.element.Element.{Element}
use Rattle.rb_queue.specs.Draft.{IsDrafted}
use Rattle.rb_queue.specs.declared.ask.Ask.{Ask}
use Rattle.rb_queue.specs.declared.ask.Ask.TheVariants.{Offer, Poll, Take, PollFor, Peek, Remove, Drain, Clear, Size}
use Rattle.rb_queue.specs.declared.event.Event.{Event}
use Rattle.rb_queue.specs.declared.reply.Reply.{Reply}
use Rattle.rb_queue.specs.declared.reply.Reply.TheVariants as replies
use Rattle.rb_kept.specs.Tries.{IsActOf, TakesMemory}
use Rattle.rb_kept.specs.declared.fault.CallFault.{CallFault}
use Rattle.rb_retry.specs.Made.{Made}
use Rattle.rb_retry.specs.KeptSteps.{fault_of}
use Rattle.rb_retry.specs.declared.desk_fault.DeskFault.{DeskFault}
use Rattle.rb_retry.specs.declared.desk_fault.DeskFault.TheVariants.{Full, Memory, Stopped}

-- the ask is one that waits if nothing is expired
abbrev pub MayWait : Ask → Type 0
MayWait Take = Unit {0}
MayWait (PollFor start timeout) = Unit {0}
MayWait _ = ⊥

-- the fault is one that the ask may get
abbrev pub MayGet : Ask → DeskFault → Type 0
MayGet ask Full = Unit {0}
MayGet ask Memory = TakesMemory ask
MayGet ask Stopped = MayWait ask

-- The moment that the event names: a reading of the desk's clock if the ask may wait, and otherwise the
-- one that was handed in.
abbrev pub IsMomentOf : (ℕ → Type 0) → Ask → ℕ → ℕ → Type 0
IsMomentOf gives Take handed asked = gives asked
IsMomentOf gives (PollFor start timeout) handed asked = gives asked
IsMomentOf gives _ handed asked = asked ≡ handed

-- the reply is one that the ask may get
abbrev pub IsReplyTo : Ask → Reply → Type 0
IsReplyTo (Offer draft) (replies.Offered element) = IsDrafted draft element
IsReplyTo Poll (replies.Item element) = Unit {0}
IsReplyTo Poll replies.Nothing = Unit {0}
IsReplyTo Take (replies.Item element) = Unit {0}
IsReplyTo (PollFor start timeout) (replies.Item element) = Unit {0}
IsReplyTo (PollFor start timeout) replies.Nothing = Unit {0}
IsReplyTo Peek (replies.Head element) = Unit {0}
IsReplyTo Peek replies.Nothing = Unit {0}
IsReplyTo (Remove id) (replies.Removed found) = Unit {0}
IsReplyTo (Drain most) (replies.Drained items) = length items ≤ most
IsReplyTo Clear replies.Cleared = Unit {0}
IsReplyTo Size (replies.Size count) = Unit {0}
IsReplyTo _ _ = ⊥

-- the desk's answer to an offer that returned this: the element
abbrev pub offer_answer : Result Element CallFault → Result Reply DeskFault
offer_answer (Ok element) = Ok (replies.Offered element)
offer_answer (Err fault) = Err (fault_of fault)

-- Exactly one more event was made, which is of the ask and has this reply.
pub record Makes (gives : ℕ → Type 0) (handed : ℕ) (ask : Ask) (answer : Reply) (old new : List Made) : Type 0 where
  pub event : Event
  pub grows : new ≡ old ++ record { event = event; reply = Some answer } ∷ []
  pub of_ask : IsActOf ask event.act
  pub asked : IsMomentOf gives ask handed event.asked
  pub answered : IsReplyTo ask answer
