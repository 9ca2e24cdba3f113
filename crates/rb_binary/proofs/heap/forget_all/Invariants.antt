-- What is still noted is noted of entries that the loop has not come to.
use Rattle.std.proofs.Common.{◌≡◌, ℕ, ◌≤◌, Some, length}
use Rattle.rb_binary.specs.Layout.{place_of}
use Rattle.rb_binary.proofs.heap.forget_all.Given as goal

abbrev pub invariant-loop-entry : goal.invariant-loop-entry
invariant-loop-entry l = (length l.places ≡ length l.fn.places)
    × ((slot place : ℕ) → place_of l.places slot ≡ Some place → (l.entry-index ≤ place) × (place_of l.fn.places slot ≡ Some place))
