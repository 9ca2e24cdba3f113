-- The words of the levels so far are 0, so no cell of theirs is marked.
use Rattle.std.proofs.Common.{◌≡◌, ℕ, ◌<◌, get_or}
use Rattle.rb_wheel.proofs.marks.Marks.first.Given as goal

abbrev pub invariant-loop-level : goal.invariant-loop-level
invariant-loop-level l = (k : ℕ) → k < l.level → get_or l.self.words k 0 ≡ 0
