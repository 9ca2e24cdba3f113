-- What a desk over a shared queue does.
use Rattle.std.specs.Prelude.{◌≡◌, ◌↔◌, ℕ, zero, suc, ◌+◌, ◌≤◌, Bool, false, ◌⊎◌, List, length, drop, Option, None, Result, Ok, Err}
use Rattle.atomic_table.specs.Seated.{TableId}
use Rattle.rb_queue.specs.declared.ask.Ask.{Ask}
use Rattle.rb_queue.specs.declared.opening.Opening.{Opening}
use Rattle.rb_queue.specs.declared.reply.Reply.{Reply}
use Rattle.rb_kept.specs.Log.{HasRoom}
use Rattle.rb_kept.specs.Tries.{TakesMemory}
use Rattle.rb_lock.specs.Passes.{PassState, IsSoundPass, Learns, log_of}
use Rattle.rb_lock.specs.SharedCalls.{Replied}
use Rattle.rb_lock.specs.declared.pass_record.PassRecord.{PassRecord}
use Rattle.rb_blocking.specs.GateSteps.{Sees}
use Rattle.rb_blocking.specs.WaitingCalls.{try_of, IsReading, IsAnswered, IsStopped, FindsFull, EndsFull}
use Rattle.rb_retry.specs.Made.{Made, made_by}
use Rattle.rb_retry.specs.Asked.{IsMomentOf, MayWait}
use Rattle.rb_retry.specs.declared.desk_fault.DeskFault.{DeskFault}
use Rattle.rb_retry.specs.declared.desk_fault.DeskFault.TheVariants.{Full, Memory, Stopped}
use Rattle.rb_shared_desk.specs.WaitRules.{WaitRules}

-- A desk over a shared queue: which reference to its pass it holds, what the pass has seen and made, the
-- desk's clock, the gate that may end its waits, and how many calls the pass had made when the desk was made.
pub record SharedState (C G : Type 0) : Type 0 where
  pub reference : ℕ
  pub pass : PassState
  pub clock : C
  pub gate : G
  pub before : ℕ

-- What no call changes: which reference the desk holds, and of the pass its queue with what that began
-- with and may hold, its name, its parts, and what was folded into it.
pub record SharedName : Type 0 where
  pub reference : ℕ
  pub table : TableId
  pub name : ℕ
  pub capacity : ℕ
  pub opening : Opening
  pub parts : ℕ
  pub folded : List PassRecord

-- The gate said no before the first try, and the pass has made no further call.
pub record IsKeptOut (answers : ℕ → Bool → Type 0) (old new : PassState) (ask : Ask) : Type 0 where
  pub waits : MayWait ask
  pub stopped : answers 0 false
  pub mine : new.mine ≡ old.mine

-- One try found nothing. The pass has learned, and made no further call.
pub record IsMiss (old new : PassState) : Type 0 where
  pub learns : Learns old new
  pub tried : new.tried ≡ old.tried + 1
  pub mine : new.mine ≡ old.mine

-- this many tries, one after the other, found nothing
abbrev pub AreMisses : PassState → ℕ → PassState → Type 0
AreMisses old zero new = new ≡ old
AreMisses old (suc misses) new = (mid : PassState) × IsMiss old mid × AreMisses mid misses new

module _ {C G : Type 0} where
  abbrev pub name_of : SharedState C G → SharedName
  name_of state = record {
    reference = state.reference;
    table = state.pass.table;
    name = state.pass.name;
    capacity = state.pass.capacity;
    opening = state.pass.opening;
    parts = state.pass.parts;
    folded = state.pass.folded;
  }

  -- the pass's events after those that it had made when the desk was made
  abbrev pub made_through : SharedState C G → List Made
  made_through state = drop state.before (made_by state.pass.name state.pass.opening state.pass.seen)

  -- the clock of a shared queue's desk can't be set
  abbrev pub SetsShared : SharedState C G → ℕ → Option ℕ → SharedState C G → Type 0
  SetsShared old moment result new = (result ≡ None) × (new ≡ old)

  module _ (rules : WaitRules C G) where
    -- the pass made one try, which the gate did not see
    abbrev pub IsOneTry : SharedState C G → PassState → SharedState C G → Type 0
    IsOneTry old start new = (new.gate ≡ old.gate) × (new.pass.tried ≡ start.tried + 1)

    -- How an ask ended, by a wait or one try from `start`, and what the pass has seen after it. With a reply the pass has
    -- made this one further call; with a fault none: the history that it has seen is full, memory was refused, or the
    -- gate stopped the wait, or let none begin.
    abbrev pub Ends : SharedState C G → PassState → ℕ → Ask → Result Reply DeskFault → SharedState C G → Type 0
    Ends old start handed ask (Ok reply) new =
        (asked : ℕ) × IsMomentOf (rules.gives old.clock) ask handed asked
        × Replied old.pass new.pass (try_of old.pass asked ask) reply
        × (IsAnswered (IsReading rules.gives rules.reads old.clock) (rules.answers old.gate)
        (Sees rules.has_seen old.gate new.gate) start new.pass ask reply ⊎ IsOneTry old start new)
    Ends old start handed ask (Err Full) new =
        EndsFull old.pass new.pass
        × (FindsFull (IsReading rules.gives rules.reads old.clock) (rules.answers old.gate)
        (Sees rules.has_seen old.gate new.gate) start new.pass ask ⊎ IsOneTry old start new)
    Ends old start handed ask (Err Memory) new =
        (new.pass.mine ≡ old.pass.mine) × HasRoom (log_of new.pass) × TakesMemory ask × IsOneTry old start new
    Ends old start handed ask (Err Stopped) new =
        IsStopped (IsReading rules.gives rules.reads old.clock) (rules.answers old.gate)
        (Sees rules.has_seen old.gate new.gate) start new.pass ask
        ⊎ (IsKeptOut (rules.answers old.gate) old.pass new.pass ask × (new.gate ≡ old.gate) × (new.pass ≡ start))

    -- After tries that found nothing and that the gate did not see, the ask ended in this way. The pass has learned, the
    -- gate's answers are as before, and nothing else has changed.
    pub record SharedSteps (old : SharedState C G) (handed : ℕ) (ask : Ask) (result : Result Reply DeskFault)
        (new : SharedState C G) : Type 0 where
      pub earlier : old.before ≤ length old.pass.mine
      pub sound : IsSoundPass old.pass
      pub learns : Learns old.pass new.pass
      pub misses : ℕ
      pub start : PassState
      pub missed : AreMisses old.pass misses start
      pub ends : Ends old start handed ask result new
      pub gate : (turns : ℕ) (goes_on : Bool)
          → rules.answers new.gate turns goes_on ↔ rules.answers old.gate turns goes_on
      pub stays : new ≡ record old { pass = new.pass; gate = new.gate }

    -- How an ask ended that was tried once, at this moment: with the reply of this one further call, or with a fault and
    -- none, since the history that the pass has seen is full. Or it was not tried, since the gate said no before that.
    abbrev pub TryEnds : SharedState C G → ℕ → Ask → Result Reply DeskFault → SharedState C G → Type 0
    TryEnds old asked ask (Ok reply) new =
        Replied old.pass new.pass (try_of old.pass asked ask) reply × (new.pass.tried ≡ old.pass.tried + 1)
    TryEnds old asked ask (Err Full) new = EndsFull old.pass new.pass × (new.pass.tried ≡ old.pass.tried + 1)
    TryEnds old asked ask (Err Memory) new = ⊥
    TryEnds old asked ask (Err Stopped) new =
        IsKeptOut (rules.answers old.gate) old.pass new.pass ask × (new.pass ≡ old.pass)

    -- The ask that was tried once ended in this way, and the pass has learned. Nothing else has changed.
    pub record TriesShared (old : SharedState C G) (asked : ℕ) (ask : Ask) (result : Result Reply DeskFault)
        (new : SharedState C G) : Type 0 where
      pub earlier : old.before ≤ length old.pass.mine
      pub sound : IsSoundPass old.pass
      pub learns : Learns old.pass new.pass
      pub ends : TryEnds old asked ask result new
      pub stays : new ≡ record old { pass = new.pass }

  -- One try found nothing, and nothing else has changed.
  pub record MissesShared (old new : SharedState C G) : Type 0 where
    pub earlier : old.before ≤ length old.pass.mine
    pub sound : IsSoundPass old.pass
    pub miss : IsMiss old.pass new.pass
    pub stays : new ≡ record old { pass = new.pass }
