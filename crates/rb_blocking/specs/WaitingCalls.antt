-- How a call that waits ends, and what the pass has seen after it.
use Rattle.std.specs.Prelude.{◌≡◌, ℕ, zero, suc, ◌+◌, Bool, true, false, List, [], ◌∷◌, ◌++◌, Option, Some, None, Result, Ok, Err}
use Rattle.rb_delayed.specs.declared.element.Element.{Element}
use Rattle.rb_queue.specs.declared.ask.Ask.{Ask}
use Rattle.rb_queue.specs.declared.reply.Reply.{Reply}
use Rattle.rb_queue.specs.declared.reply.Reply.TheVariants.{Item, Nothing}
use Rattle.rb_kept.specs.Log.{HasRoom, IsFull}
use Rattle.rb_kept.specs.Tries.{Waits}
use Rattle.rb_kept.specs.declared.tries.Try.{Try}
use Rattle.rb_lock.specs.Passes.{PassState, Learns, log_of}
use Rattle.rb_lock.specs.SharedCalls.{Replied}
use Rattle.rb_blocking.specs.GateSteps.{GateStep, Asked, told, turns_of}
use Rattle.rb_blocking.specs.declared.fault.WaitFault.{WaitFault}
use Rattle.rb_blocking.specs.declared.fault.WaitFault.TheVariants.{Full, Stopped}

-- a clock's reading for the try of a wait that follows this many others
abbrev pub IsReading : {C : Type 0} → (C → ℕ → Type 0) → (C → ℕ → ℕ → Type 0) → C → ℕ → ℕ → Type 0
IsReading gives reads clock tries moment = gives clock moment × reads clock tries moment

-- the pass's try of an ask, at a reading
abbrev pub try_of : PassState → ℕ → Ask → Try
try_of pass asked ask = record { seat = pass.name; asked = asked; ask = ask }

-- One try, at a reading that the clock gives, found nothing that has expired. The pass has learned, has made no
-- further call, and would still wait.
pub record FindsNothing (gives : ℕ → Type 0) (old new : PassState) (ask : Ask) : Type 0 where
  pub asked : ℕ
  pub read : gives asked
  pub expiry : Option ℕ
  pub learns : Learns old new
  pub tried : new.tried ≡ old.tried + 1
  pub room : HasRoom (log_of new)
  pub waits : Waits (log_of new) (try_of old asked ask) expiry
  pub mine : new.mine ≡ old.mine

-- This many tries, one after the other, found nothing that has expired, each at a reading of its own, and after each the
-- gate let the wait go on.
abbrev pub WaitsOn : (ℕ → ℕ → Type 0) → (ℕ → Bool → Type 0) → PassState → Ask → ℕ → PassState → Type 0
WaitsOn gives answers old ask zero new = new ≡ old
WaitsOn gives answers old ask (suc tries) new =
    (mid : PassState) × WaitsOn gives answers old ask tries mid × FindsNothing (gives (told tries)) mid new ask
    × answers (told tries) true

-- After tries that found nothing, one more was answered, at a reading that the clock gives for this try. The gate saw a turn
-- and then a rest behind each of the others, before the next, and nothing else.
pub record IsAnswered (gives : ℕ → ℕ → Type 0) (answers : ℕ → Bool → Type 0) (sees : List GateStep → Type 0)
    (old new : PassState) (ask : Ask) (reply : Reply) : Type 0 where
  pub tries : ℕ
  pub before : PassState
  pub waited : WaitsOn gives answers old ask tries before
  pub seen : sees (turns_of old.tried tries)
  pub learns : Learns before new
  pub tried : new.tried ≡ before.tried + 1
  pub asked : ℕ
  pub read : gives (told tries) asked
  pub replied : Replied old new (try_of old asked ask) reply

-- The gate stopped the wait after the last of its tries, each of which found nothing that has expired. It saw a turn behind
-- each, and a rest behind each turn but the last.
pub record IsStopped (gives : ℕ → ℕ → Type 0) (answers : ℕ → Bool → Type 0) (sees : List GateStep → Type 0)
    (old new : PassState) (ask : Ask) : Type 0 where
  pub tries : ℕ
  pub before : PassState
  pub waited : WaitsOn gives answers old ask tries before
  pub seen : sees (turns_of old.tried tries ++ Asked (told tries) false ∷ [])
  pub last : FindsNothing (gives (told tries)) before new ask
  pub stopped : answers (told tries) false

-- the history that the pass has seen is full, and the pass has made no further call
pub record EndsFull (old new : PassState) : Type 0 where
  pub full : IsFull (log_of new)
  pub mine : new.mine ≡ old.mine

-- After tries that found nothing, one more, at a reading that the clock gives for it, found the history full. The gate saw a
-- turn and a rest behind each of the others, and nothing else.
pub record FindsFull (gives : ℕ → ℕ → Type 0) (answers : ℕ → Bool → Type 0) (sees : List GateStep → Type 0)
    (old new : PassState) (ask : Ask) : Type 0 where
  pub tries : ℕ
  pub before : PassState
  pub waited : WaitsOn gives answers old ask tries before
  pub seen : sees (turns_of old.tried tries)
  pub learns : Learns before new
  pub tried : new.tried ≡ before.tried + 1
  pub asked : ℕ
  pub read : gives (told tries) asked
  pub ends : EndsFull old new

-- how an ask that waits ended, and what the gate saw
abbrev pub Waited : (ℕ → ℕ → Type 0) → (ℕ → Bool → Type 0) → (List GateStep → Type 0) → PassState → PassState → Ask
    → Result Reply WaitFault → Type 0
Waited gives answers sees old new ask (Ok reply) = IsAnswered gives answers sees old new ask reply
Waited gives answers sees old new ask (Err Full) = FindsFull gives answers sees old new ask
Waited gives answers sees old new ask (Err Stopped) = IsStopped gives answers sees old new ask

-- the reply that gives an element, or none
abbrev pub reply_with : Option Element → Reply
reply_with (Some element) = Item element
reply_with None = Nothing

-- a take's result, as that of its ask
abbrev pub taken : Result Element WaitFault → Result Reply WaitFault
taken (Ok element) = Ok (Item element)
taken (Err fault) = Err fault

-- a timed poll's result, as that of its ask
abbrev pub polled : Result (Option Element) WaitFault → Result Reply WaitFault
polled (Ok got) = Ok (reply_with got)
polled (Err fault) = Err fault
