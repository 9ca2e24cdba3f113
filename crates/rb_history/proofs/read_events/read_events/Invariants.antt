-- The lines so far are those of the events, and each round leaves less text.
use Rattle.std.proofs.Common.{length}
use Rattle.rb_history.proofs.EventLines.{ReadSoFar}
use Rattle.rb_history.proofs.read_events.read_events.Given as goal

abbrev pub invariant-loop-line : goal.invariant-loop-line
invariant-loop-line l = ReadSoFar l.version l.fn.text l.events.items l.rest

abbrev pub decreases-loop-line : goal.decreases-loop-line
decreases-loop-line l = length l.rest
