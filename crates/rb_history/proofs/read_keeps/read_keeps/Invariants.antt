-- The lines so far are those of the elements.
use Rattle.rb_history.proofs.KeepLines.{KeptSoFar}
use Rattle.rb_history.proofs.read_keeps.read_keeps.Given as goal

abbrev pub invariant-loop-place : goal.invariant-loop-place
invariant-loop-place l = KeptSoFar l.version l.told.next_id l.fn.text l.kept.items l.rest l.least l.place
