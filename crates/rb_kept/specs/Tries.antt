-- What a try to make a call may give, from one log to the next.
use Rattle.std.specs.Prelude.{◌≡◌, ℕ, ◌<◌, max, List, [], ◌∷◌, ◌++◌, Option, Some, Result, Ok, Err}
use Rattle.rb_queue.specs.Bag.{NoneExpired}
use Rattle.rb_queue.specs.Head.{IsNextExpiry}
use Rattle.rb_queue.specs.Draft.{IsDrafted}
use Rattle.rb_queue.specs.Calls.{deadline_of}
use Rattle.rb_queue.specs.History.{IsLegal}
use Rattle.rb_queue.specs.Replies.{reply_of}
use Rattle.rb_queue.specs.declared.act.Act.{Act}
use Rattle.rb_queue.specs.declared.act.Act.TheVariants as acts
use Rattle.rb_queue.specs.declared.ask.Ask.{Ask}
use Rattle.rb_queue.specs.declared.ask.Ask.TheVariants.{Offer, Poll, Take, PollFor, Peek, Remove, Drain, Clear, Size}
use Rattle.rb_queue.specs.declared.event.Event.{Event}
use Rattle.rb_queue.specs.declared.reply.Reply.{Reply}
use Rattle.rb_kept.specs.Log.{Log, state_at, HasRoom, IsFull, with_event}
use Rattle.rb_kept.specs.declared.tries.Try.{Try}
use Rattle.rb_kept.specs.declared.outcome.Outcome.{Outcome}
use Rattle.rb_kept.specs.declared.outcome.Outcome.TheVariants.{Done, Later}
use Rattle.rb_kept.specs.declared.fault.CallFault.{CallFault}
use Rattle.rb_kept.specs.declared.fault.CallFault.TheVariants.{Full, Memory}

-- the ask is one that takes memory
abbrev pub TakesMemory : Ask → Type 0
TakesMemory (Offer draft) = Unit {0}
TakesMemory (Drain max) = Unit {0}
TakesMemory _ = ⊥

-- the ask waits past this moment if nothing is expired
abbrev pub WaitsPast : Ask → ℕ → Type 0
WaitsPast Take now = Unit {0}
WaitsPast (PollFor start timeout) now = now < deadline_of start timeout
WaitsPast _ now = ⊥

-- the act is one of the ask
abbrev pub IsActOf : Ask → Act → Type 0
IsActOf (Offer draft) (acts.Offer element) = IsDrafted draft element
IsActOf Poll (acts.Poll given) = Unit {0}
IsActOf Take (acts.Take id) = Unit {0}
IsActOf (PollFor start timeout) (acts.PollFor from within given) = (from ≡ start) × (within ≡ timeout)
IsActOf Peek (acts.Peek shown) = Unit {0}
IsActOf (Remove id) (acts.Remove named found) = named ≡ id
IsActOf (Drain max) (acts.Drain most ids) = most ≡ max
IsActOf Clear acts.Clear = Unit {0}
IsActOf Size (acts.Size count) = Unit {0}
IsActOf _ _ = ⊥

-- The event is the try's. The history with this event at its end is legal, and has this reply.
pub record Records (old : Log) (try : Try) (answer : Reply) (event : Event) : Type 0 where
  pub seat : event.seat ≡ try.seat
  pub asked : event.asked ≡ try.asked
  pub act : IsActOf try.ask event.act
  pub legal : IsLegal old.opening (old.history ++ event ∷ [])
  pub reply : reply_of old.opening (old.history ++ event ∷ []) ≡ Some answer

-- the try finds nothing that is expired, would wait, and learns the least expiry
pub record Waits (old : Log) (try : Try) (expiry : Option ℕ) : Type 0 where
  pub waits : WaitsPast try.ask (max try.asked (state_at old).moment)
  pub none : NoneExpired (state_at old).queue.bag (max try.asked (state_at old).moment)
  pub next : IsNextExpiry (state_at old).queue.bag expiry

-- How a try that is not refused may end, from one log to the next: it is answered by exactly one more
-- event, or it would wait, and nothing has changed.
abbrev pub Answers : Log → Try → Outcome → Log → Type 0
Answers old try (Done reply) new = (event : Event) × (new ≡ with_event old event) × Records old try reply event
Answers old try (Later next) new = Waits old try next × (new ≡ old)

-- one try: `Full` exactly if there is no room, and a fault changes nothing
abbrev pub StepsTo : Log → Try → Result Outcome CallFault → Log → Type 0
StepsTo old try (Ok outcome) new = HasRoom old × Answers old try outcome new
StepsTo old try (Err Full) new = IsFull old × (new ≡ old)
StepsTo old try (Err Memory) new = HasRoom old × TakesMemory try.ask × (new ≡ old)

-- a step for each try, one after the other, from one log to the other
abbrev pub StepsAlong : Log → List Try → List (Result Outcome CallFault) → Log → Type 0
StepsAlong old [] [] new = new ≡ old
StepsAlong old (try ∷ tries) (step ∷ steps) new =
    (between : Log) × StepsTo old try step between × StepsAlong between tries steps new
StepsAlong _ _ _ _ = ⊥
