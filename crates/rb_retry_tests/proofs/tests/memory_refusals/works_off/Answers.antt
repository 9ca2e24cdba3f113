-- No call changed what names the desk.
use Rattle.std.proofs.Common.{Err, ◌∙◌}
use Rattle.rb_queue.specs.declared.ask.Ask.TheVariants.{Take}
use Rattle.rb_retry.specs.DeskRules.{desk_rules}
use Rattle.rb_retry_tests.proofs.NamedRuns.{runs_keep}
use Rattle.rb_retry_tests.proofs.tests.memory_refusals.works_off.Goals as goal

pub returns : goal.returns
returns g c =
    let desk = g.met.D.Desk in
    let worked = c.work_off-report.ensures.runs in record {
      name = c.expect_fillers.ensures.name
          ∙ desk.keeps_name worked.1 (g.D.Desk.state c.work_off-report.new.desk) 0 Take (Err worked.2) worked.4
          ∙ runs_keep (desk_rules g.D.Desk c.expect-policy.result) (λ element answer. Unit {0}) g.D.Desk.name desk.keeps_name
          (g.D.Desk.state c.args.desk.now) worked.1 worked.0 worked.3;
    }
