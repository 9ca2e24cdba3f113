-- The pass has learned and made no call, and the gate answers as it did when the wait began. The tries so far found
-- nothing, behind each the gate let the wait go on and saw a rest, and it is told their number next.
use Rattle.std.proofs.Common.{◌≡◌, ◌↔◌, ℕ, ◌+◌, Bool}
use Rattle.rb_lock.specs.Passes.{Learns}
use Rattle.rb_blocking.specs.GateSteps.{Sees, told, turns_of}
use Rattle.rb_blocking.specs.WaitingCalls.{WaitsOn, IsReading}
use Rattle.rb_blocking.proofs.waits.try_often.Given as goal

abbrev pub invariant-loop : goal.invariant-loop
invariant-loop g l =
    Learns l.initial.pass l.pass
    × (l.pass.mine ≡ l.initial.pass.mine)
    × ((n : ℕ) (goes_on : Bool) → g.G.Gate.answers l.gate n goes_on ↔ g.G.Gate.answers l.initial.gate n goes_on)
    × ((tries : ℕ) × (l.turns ≡ told tries)
    × (l.pass.tried ≡ l.initial.pass.tried + tries)
    × WaitsOn (IsReading g.C.Clock.gives g.C.Clock.reads l.waiter.clock.now) (g.G.Gate.answers l.initial.gate)
    l.initial.pass l.ask tries l.pass
    × Sees g.G.Gate.has_seen l.initial.gate l.gate (turns_of l.initial.pass.tried tries))
