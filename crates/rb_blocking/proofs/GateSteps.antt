-- What a gate saw in several calls, one after the other.
use Rattle.std.proofs.Common.{List, ◌++◌, subst, append_assoc}
use Rattle.rb_blocking.specs.GateSteps.{GateStep, Sees}

module _ {G : Type 0} (has_seen : G → List GateStep → Type 0) (old mid new : G) (steps more : List GateStep) where
  pub sees_more : Sees has_seen old mid steps → Sees has_seen mid new more → Sees has_seen old new (steps ++ more)
  sees_more first then before had =
      subst (has_seen new) (append_assoc before steps more) (then (before ++ steps) (first before had))
