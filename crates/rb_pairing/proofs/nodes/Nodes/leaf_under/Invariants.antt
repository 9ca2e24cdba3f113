-- The slot that was reached has an entry.
use Rattle.std.proofs.Common.{IsSome}
use Rattle.rb_pairing.specs.Nodes.{expiry_of}
use Rattle.rb_pairing.proofs.nodes.Nodes.leaf_under.Given as goal

abbrev pub invariant-down : goal.invariant-down
invariant-down l = IsSome (expiry_of l.self l.slot)
