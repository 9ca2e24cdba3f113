-- What a desk over a kept queue does.
use Rattle.std.specs.Prelude.{◌≡◌, ℕ, ◌≤◌, max, List, length, take, drop, Option, Some, Result, Ok, Err}
use Rattle.rb_ledger.specs.declared.totals.Totals.{Totals}
use Rattle.rb_queue.specs.declared.ask.Ask.{Ask}
use Rattle.rb_queue.specs.declared.ask.Ask.TheVariants.{Take, PollFor}
use Rattle.rb_queue.specs.declared.reply.Reply.{Reply}
use Rattle.rb_kept.specs.Log.{Log}
use Rattle.rb_kept.specs.Shares.{Grows}
use Rattle.rb_kept.specs.Tries.{StepsTo}
use Rattle.rb_kept.specs.declared.outcome.Outcome.{Outcome}
use Rattle.rb_kept.specs.declared.outcome.Outcome.TheVariants.{Done, Later}
use Rattle.rb_kept.specs.declared.fault.CallFault.{CallFault}
use Rattle.rb_kept.specs.declared.fault.CallFault.TheVariants as refusals
use Rattle.rb_retry.specs.Made.{Made, made_after}
use Rattle.rb_retry.specs.declared.desk_fault.DeskFault.{DeskFault}
use Rattle.rb_retry.specs.declared.desk_fault.DeskFault.TheVariants.{Full, Memory, Stopped}

-- A desk over a kept queue: which reference it holds, the queue's log, the share that counts the calls,
-- the desk's moment, and how many events the history had when the desk was made.
pub record KeptState : Type 0 where
  pub name : ℕ
  pub log : Log
  pub share : Totals
  pub moment : ℕ
  pub before : ℕ

-- the events after those that the history had when the desk was made
abbrev pub made_at : KeptState → List Made
made_at state =
    made_after state.log.opening (take state.before state.log.history) (drop state.before state.log.history)

-- an ask that may wait is made at the desk's moment, and any other at the one that is handed in
abbrev pub asked_at : ℕ → Ask → ℕ → ℕ
asked_at moment Take handed = moment
asked_at moment (PollFor start timeout) handed = moment
asked_at moment _ handed = handed

-- the fault of a refused call
abbrev pub fault_of : CallFault → DeskFault
fault_of refusals.Full = Full
fault_of refusals.Memory = Memory

-- the queue's answer, with waiting given up at once
abbrev pub answer_of : Result Outcome CallFault → Result Reply DeskFault
answer_of (Ok (Done reply)) = Ok reply
answer_of (Ok (Later expiry)) = Err Stopped
answer_of (Err fault) = Err (fault_of fault)

-- the desk's moment never goes back
abbrev pub SetsKept : KeptState → ℕ → Option ℕ → KeptState → Type 0
SetsKept old moment result new =
    (result ≡ Some (max moment old.moment)) × (new ≡ record old { moment = max moment old.moment })

-- the answer is that of one try of seat 0, and only the log and the share have changed
pub record KeptSteps (old : KeptState) (handed : ℕ) (ask : Ask) (result : Result Reply DeskFault)
    (new : KeptState) : Type 0 where
  pub earlier : old.before ≤ length old.log.history
  pub outcome : Result Outcome CallFault
  pub answers : result ≡ answer_of outcome
  pub steps : StepsTo old.log (record { seat = 0; asked = asked_at old.moment ask handed; ask = ask }) outcome new.log
  pub counts : Grows old.log new.log old.share new.share
  pub stays : new ≡ record old { log = new.log; share = new.share }

-- nobody else could offer what a call would wait for, so each is answered by one try
abbrev pub NeverMisses : KeptState → KeptState → Type 0
NeverMisses old new = ⊥
