-- By what rules the calls of a desk wait.
use Rattle.std.specs.Prelude.{ℕ, Bool, List}
use Rattle.rb_blocking.specs.GateSteps.{GateStep}
use Rattle.rb_blocking.specs.declared.clock.Clock as Clock
use Rattle.rb_blocking.specs.declared.gate.Gate as Gate

-- The rules of calls that may wait: which numbers a clock may give, at all and for a try that follows so many others,
-- what a gate may answer after a number of turns, and what it has seen.
pub record WaitRules (C G : Type 0) : Type 1 where
  pub gives : C → ℕ → Type 0
  pub reads : C → ℕ → ℕ → Type 0
  pub answers : G → ℕ → Bool → Type 0
  pub has_seen : G → List GateStep → Type 0

-- those of any clock and gate
abbrev pub wait_rules : {C G : Type 0} → Clock.Ghosts C → Gate.Ghosts G → WaitRules C G
wait_rules clock gate = record { gives = clock.gives; reads = clock.reads; answers = gate.answers; has_seen = gate.has_seen }
