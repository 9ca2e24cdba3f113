-- With the entry put at the hole, only the order above the hole may be wrong; the hole moves up.
use Rattle.std.proofs.Common.{set}
use Rattle.rb_binary.specs.Layout.{MayRise, expiries, note}
use Rattle.rb_binary.proofs.KeptPlaces.{Carries}
use Rattle.rb_binary.proofs.heap.sift_up.Given as goal

abbrev pub invariant-loop-place : goal.invariant-loop-place
invariant-loop-place l = record {
  carries : Carries l.heap l.places l.place l.entry
      (expiries l.initial.heap (note l.initial.heap l.initial.places l.initial.place));
  ordered : MayRise (set l.heap l.place l.entry) l.place;
}

abbrev pub decreases-loop-place : goal.decreases-loop-place
decreases-loop-place l = l.place
