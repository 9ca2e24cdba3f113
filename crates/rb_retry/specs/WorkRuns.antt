-- The outcome of working off a desk's jobs.
use Rattle.std.specs.Prelude.{◌≡◌, ℕ, ◌+◌, Bool, true, false, List, [], ◌∷◌, Result, Ok, Err}
use Rattle.rb_delayed.specs.declared.element.Element.{Element}
use Rattle.rb_queue.specs.declared.ask.Ask.TheVariants.{Take}
use Rattle.rb_queue.specs.declared.reply.Reply.TheVariants.{Item}
use Rattle.rb_kept.specs.declared.fault.CallFault.{CallFault}
use Rattle.rb_retry.specs.DeskRules.{DeskRules}
use Rattle.rb_retry.specs.Jobs.{FailsTo}
use Rattle.rb_retry.specs.declared.verdict.Verdict.{Verdict}
use Rattle.rb_retry.specs.declared.verdict.Verdict.TheVariants.{Again, Dead}
use Rattle.rb_retry.specs.declared.work_report.WorkReport.{WorkReport}

-- how a run of an element ended: it was done, or it failed with this result
pub data RunEnd : Type 0 where
  done : RunEnd
  failed : Result Verdict (Element × CallFault) → RunEnd

-- an element that was taken, and how its run ended
pub record WorkRun : Type 0 where
  pub element : Element
  pub end : RunEnd

-- no run
abbrev pub no_runs : WorkReport
no_runs = record { runs = 0; dones = 0; agains = 0; deads = 0; lost = 0 }

-- each run ended in one of the four ways
abbrev pub IsSum : WorkReport → Type 0
IsSum report = report.runs ≡ report.dones + report.agains + report.deads + report.lost

-- the report with one more run
abbrev pub counted : WorkReport → RunEnd → WorkReport
counted report done = record report { runs = report.runs + 1; dones = report.dones + 1 }
counted report (failed (Ok (Again again))) = record report { runs = report.runs + 1; agains = report.agains + 1 }
counted report (failed (Ok (Dead dead))) = record report { runs = report.runs + 1; deads = report.deads + 1 }
counted report (failed (Err refused)) = record report { runs = report.runs + 1; lost = report.lost + 1 }

-- the report after these runs, which follow those of another report
abbrev pub report_after : WorkReport → List WorkRun → WorkReport
report_after report [] = report
report_after report (run ∷ runs) = report_after (counted report run.end) runs

module _ {S : Type 0} (rules : DeskRules S) (may : Element → Bool → Type 0) where
  -- the work gave this answer for the element, and a job that failed did so at a reading of the desk's clock
  abbrev pub EndsRun : Element → S → RunEnd → S → Type 0
  EndsRun element old done new = may element true × (new ≡ old)
  EndsRun element old (failed result) new =
      may element false × (now : ℕ) × rules.gives old now × FailsTo rules element now old result new

  -- these runs, one after the other: each takes an element, and ends
  abbrev pub RunsAlong : S → List WorkRun → S → Type 0
  RunsAlong old [] new = new ≡ old
  RunsAlong old (run ∷ runs) new =
      (taken : S) × rules.Steps old 0 Take (Ok (Item run.element)) taken
      × (after : S) × EndsRun run.element taken run.end after × RunsAlong after runs new
