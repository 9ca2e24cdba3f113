-- What the report says of the runs so far, and why they come to an end.
use Rattle.std.proofs.Common.{◌≡◌, ◌-◌, ◌≤◌, List, length}
use Rattle.rb_kept.specs.declared.kept.TheConstants.{MOST_CALLS}
use Rattle.rb_retry.specs.DeskRules.{desk_rules}
use Rattle.rb_retry.specs.WorkRuns.{WorkRun, RunsAlong, IsSum, no_runs, report_after}
use Rattle.rb_retry.proofs.worker.work_off.Given as goal

-- the runs so far, each of which has made an event
abbrev pub invariant-loop-job : goal.invariant-loop-job
invariant-loop-job g l = record {
  along : (runs : List WorkRun) × RunsAlong (desk_rules g.D.Desk l.policy) (g.W.Work.may l.work) (g.D.Desk.state l.fn.desk) runs (g.D.Desk.state l.desk)
      × (l.report ≡ report_after no_runs runs);
  sum : IsSum l.report;
  few : l.report.runs ≤ length (g.D.Desk.mine (g.D.Desk.state l.desk));
}

-- each run makes an event, and no desk makes more than MOST_CALLS
abbrev pub decreases-loop-job : goal.decreases-loop-job
decreases-loop-job g l = MOST_CALLS - length (g.D.Desk.mine (g.D.Desk.state l.desk))
