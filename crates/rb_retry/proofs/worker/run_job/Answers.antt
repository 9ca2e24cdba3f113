-- A job that failed ends as its failure says: offered again, dead, or lost.
use Rattle.std.proofs.Common.{◌≡◌, Bool, Ok, Err, Result, ap, refl, subst, ◌∙◌}
use Rattle.rb_delayed.specs.declared.element.Element.{Element}
use Rattle.rb_kept.specs.declared.fault.CallFault.{CallFault}
use Rattle.rb_retry.specs.DeskRules.{desk_rules}
use Rattle.rb_retry.specs.Jobs.{FailsTo}
use Rattle.rb_retry.specs.WorkRuns.{failed, EndsRun}
use Rattle.rb_retry.specs.declared.verdict.Verdict.{Verdict}
use Rattle.rb_retry.specs.declared.verdict.Verdict.TheVariants.{Again, Dead}
use Rattle.rb_retry.proofs.worker.run_job.Given.{Over}
use Rattle.rb_retry.proofs.worker.run_job.Goals as goal
use Rattle.rb_retry.proofs.worker.run_job.Goals.{After-fail}

ends_failed : (g : Over) (c : After-fail g) (result : Result Verdict (Element × CallFault)) → c.fail.result ≡ result
    → EndsRun (desk_rules g.D.Desk c.args.policy.now) (g.W.Work.may c.args.work.now) c.args.job (g.D.Desk.state c.args.desk.now) (failed result) (g.D.Desk.state c.fail.new.desk)
ends_failed g c result is =
    let may : Element → Bool → Type 0 = g.W.Work.may c.args.work.now in (
      subst (λ said. may c.args.job said) c.if-run.false (subst (λ element. may element c.run.result) c.element.ensures c.run.ensures),
      c.now-now.result,
      c.now-now.ensures,
      subst (λ (r : Result Verdict (Element × CallFault)). FailsTo (desk_rules g.D.Desk c.args.policy.now) c.args.job c.now-now.result (g.D.Desk.state c.args.desk.now) r (g.D.Desk.state c.fail.new.desk))
          is c.fail.ensures.fails,
    )

pub returns-in-Ok-Again-clause-ends : goal.returns-in-Ok-Again-clause-ends
returns-in-Ok-Again-clause-ends g c =
    let is = c.in-Ok-Again.is ∙ ap Ok c.in-Ok-Again.field-0-is in
    (failed (Ok (Again c.in-Ok-Again.field-0-0)), ends_failed g (goal.at.returns-in-Ok-Again-clause-ends g c).After-fail _ is, refl)

pub returns-in-Ok-Dead-clause-ends : goal.returns-in-Ok-Dead-clause-ends
returns-in-Ok-Dead-clause-ends g c =
    let is = c.in-Ok-Dead.is ∙ ap Ok c.in-Ok-Dead.field-0-is in
    (failed (Ok (Dead c.in-Ok-Dead.field-0-0)), ends_failed g (goal.at.returns-in-Ok-Dead-clause-ends g c).After-fail _ is, refl)

pub returns-in-Err-clause-ends : goal.returns-in-Err-clause-ends
returns-in-Err-clause-ends g c = (failed (Err c.in-Err.field-0), ends_failed g (goal.at.returns-in-Err-clause-ends g c).After-fail _ c.in-Err.is, refl)
