-- Those that were taken out so far have failed: once those that are still held have too, all have, and the lost among
-- both are counted.
use Rattle.std.proofs.Common.{ℕ, ◌+◌, ◌≤◌, length}
use Rattle.rb_retry.specs.DeskRules.{desk_rules}
use Rattle.rb_session.specs.Closing.{Closes}
use Rattle.rb_session.specs.declared.held_jobs.TheConstants.{MOST_HELD}
use Rattle.rb_session.proofs.held_job_ends.fail_all.Given as goal

abbrev pub invariant-loop-job : goal.invariant-loop-job
invariant-loop-job g l = record {
  closes : (more : ℕ) (new : g.D.Desk.State)
      → Closes (desk_rules g.D.Desk l.policy) (g.D.Desk.state l.desk) l.held more new
      → Closes (desk_rules g.D.Desk l.policy) (g.D.Desk.state l.fn.desk) l.fn.held (l.lost + more) new;
  few : l.lost + length l.held ≤ MOST_HELD;
}

abbrev pub decreases-loop-job : goal.decreases-loop-job
decreases-loop-job g l = length l.held
