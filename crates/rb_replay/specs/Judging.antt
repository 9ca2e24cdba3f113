-- How the replay of one act may end. No public clause cites this module.
use Rattle.std.specs.Prelude.{◌≡◌, ℕ, Result, Ok, Err}
use Rattle.std.specs.FinMap as map
use Rattle.rb_queue.specs.Head.{IsHeadId}
use Rattle.rb_queue.specs.Queue.{Queue}
use Rattle.rb_queue.specs.Calls.{Acts}
use Rattle.rb_queue.specs.declared.act.Act.{Act}
use Rattle.rb_replay.specs.declared.reason.Reason.{Reason}
use Rattle.rb_replay.specs.Refusal.{ActTests}
use Rattle.rb_replay.specs.declared.judge.JudgeFault.{JudgeFault}
use Rattle.rb_replay.specs.declared.judge.JudgeFault.TheVariants.{Refused, Memory}

-- a value of which this holds, or the reason of the first test that fails
abbrev pub Passes : {X : Type 0} → (X → Type 0) → (Reason → Type 0) → Result X JudgeFault → Type 0
Passes holds tests (Ok x) = holds x
Passes holds tests (Err (Refused reason)) = tests reason
Passes holds tests (Err Memory) = ⊥

-- the queue did the act, or this is the reason of the act's first test that fails
abbrev pub Judges : {X : Type 0} → Queue → ℕ → Act → Result X JudgeFault → Queue → Type 0
Judges old now act (Ok x) new = Acts old now act new
Judges old now act (Err (Refused reason)) new = ActTests old now act reason
Judges old now act (Err Memory) new = Unit {0}

-- the element was the head, and has left
pub record Gave (old : Queue) (now id : ℕ) (new : Queue) : Type 0 where
  pub head : IsHeadId old.bag now id
  pub after : new ≡ record old { bag = map.remove old.bag id }
