-- One run more goes behind the others and makes an event, so the loop ends and no sum overflows.
use Rattle.std.proofs.Common.{◌∷◌, ◌++◌, [], ◌∙◌, sym, ap, arith}
use Rattle.rb_retry.specs.DeskRules.{desk_rules}
use Rattle.rb_retry.specs.WorkRuns.{no_runs, counted}
use Rattle.rb_retry.proofs.RunSteps.{report_after-append, one_more, along_more, took_more, ended_more}
use Rattle.rb_retry.proofs.worker.work_off.Goals as goal

pub loop-job-smaller : goal.loop-job-smaller
loop-job-smaller g c =
    let rules = desk_rules g.D.Desk c.args.policy.now in let may = g.W.Work.may c.args.work.now in
    let laws = g.met.D.Desk in
    let took = took_more rules may g.D.Desk.mine laws.makes laws.refuses (g.D.Desk.state c.loop-job.desk) (g.D.Desk.state c.take.new.desk) c.in-Ok.job c.in-Ok.ensures.step in
    let ended = ended_more rules may g.D.Desk.mine laws.makes laws.refuses c.in-Ok.job (g.D.Desk.state c.take.new.desk) c.run_job.ensures.ends.0 (g.D.Desk.state c.run_job.new.desk) c.run_job.ensures.ends.1 in
    omega (arith, took, ended, c.in-Ok.ensures.few)

pub loop-job-preserved : goal.loop-job-preserved
loop-job-preserved g c =
    let rules = desk_rules g.D.Desk c.args.policy.now in let may = g.W.Work.may c.args.work.now in
    let laws = g.met.D.Desk in
    let along = c.loop-job.invariant.along in
    let ends = c.run_job.ensures.ends in
    let took = took_more rules may g.D.Desk.mine laws.makes laws.refuses (g.D.Desk.state c.loop-job.desk) (g.D.Desk.state c.take.new.desk) c.in-Ok.job c.in-Ok.ensures.step in
    let ended = ended_more rules may g.D.Desk.mine laws.makes laws.refuses c.in-Ok.job (g.D.Desk.state c.take.new.desk) ends.0 (g.D.Desk.state c.run_job.new.desk) ends.1 in
    record {
      along = (
        along.0 ++ record { element = c.in-Ok.job; end = ends.0 } ∷ [],
        along_more rules may _ _ _ _ along.0 c.in-Ok.job ends.0 along.1 c.in-Ok.ensures.step ends.1,
        ends.2 ∙ ap (λ report. counted report ends.0) along.2 ∙ sym (report_after-append no_runs along.0 (record { element = c.in-Ok.job; end = ends.0 })),
      );
      sum = c.run_job.ensures.sum;
      few = omega (arith, took, ended, c.loop-job.invariant.few, ap (λ report. report.runs) ends.2, one_more c.loop-job.report ends.0);
    }
