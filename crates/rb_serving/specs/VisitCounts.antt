-- What visits come to.
use Rattle.std.specs.Prelude.{ℕ, Result, Ok, Err}
use Rattle.rb_ledger.specs.Totals.{capped_sum}
use Rattle.rb_session.specs.Served.{lost_in}
use Rattle.rb_session.specs.declared.ended.Ended.{Ended}
use Rattle.rb_session.specs.declared.session_fault.SessionFault.{SessionFault}
use Rattle.rb_serving.specs.declared.serve_report.ServeReport.{ServeReport}
use Rattle.rb_serving.specs.declared.visit_counts.VisitCounts.{VisitCounts}

-- the three counts of a report
abbrev pub counts_in : {T : Type 0} → ServeReport T → VisitCounts
counts_in report = record { sessions = report.sessions; faults = report.faults; lost = report.lost }

-- a visit that was refused at the door
abbrev pub refused_visit : VisitCounts
refused_visit = record { sessions = 1; faults = 1; lost = 0 }

-- a session that ends by a fault is one fault
abbrev pub faults_in : Result Ended SessionFault → ℕ
faults_in (Ok ended) = 0
faults_in (Err fault) = 1

-- a visit whose session ended so
abbrev pub ended_visit : Result Ended SessionFault → VisitCounts
ended_visit outcome = record { sessions = 1; faults = faults_in outcome; lost = lost_in outcome }

-- both together, each number at most the greatest
abbrev pub both_counts : VisitCounts → VisitCounts → VisitCounts
both_counts one other = record {
  sessions = capped_sum one.sessions other.sessions;
  faults = capped_sum one.faults other.faults;
  lost = capped_sum one.lost other.lost;
}
