-- A wait makes no call while its tries find nothing. No public clause cites this module.
use Rattle.std.proofs.Common.{◌≡◌, ℕ, zero, suc, Bool, List, ap, ◌∙◌}
use Rattle.rb_queue.specs.declared.ask.Ask.{Ask}
use Rattle.rb_lock.specs.Passes.{PassState}
use Rattle.rb_blocking.specs.GateSteps.{GateStep}
use Rattle.rb_blocking.specs.WaitingCalls.{WaitsOn, IsStopped}

-- the tries that found nothing made no call
pub waited_unmade : (gives : ℕ → ℕ → Type 0) (answers : ℕ → Bool → Type 0) (old : PassState) (ask : Ask) (tries : ℕ) (new : PassState)
    → WaitsOn gives answers old ask tries new → new.mine ≡ old.mine
waited_unmade gives answers old ask zero new same = ap (λ (pass : PassState). pass.mine) same
waited_unmade gives answers old ask (suc tries) new (mid, waited, nothing, went_on) =
    nothing.mine ∙ waited_unmade gives answers old ask tries mid waited

-- and neither did the last
pub stopped_unmade : (gives : ℕ → ℕ → Type 0) (answers : ℕ → Bool → Type 0) (sees : List GateStep → Type 0)
    (old new : PassState) (ask : Ask) → IsStopped gives answers sees old new ask → new.mine ≡ old.mine
stopped_unmade gives answers sees old new ask stopped =
    stopped.last.mine ∙ waited_unmade gives answers old ask stopped.tries stopped.before stopped.waited
