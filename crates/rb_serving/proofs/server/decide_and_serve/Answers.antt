-- The report is that of the workers' passes and counts, and their entrances are back.
use Rattle.std.proofs.Common.{ap}
use Rattle.rb_lock.specs.Passes.{PassState}
use Rattle.rb_serving.specs.Terms.{terms_of}
use Rattle.rb_serving.proofs.ServedRuns.{of_ok, server_run}
use Rattle.rb_serving.proofs.server.decide_and_serve.Goals as goal

pub returns-in-Ok-clause-served : goal.returns-in-Ok-clause-served
returns-in-Ok-clause-served g c opening fresh =
    let terms = terms_of g.D.Reader.Read g.D.Writer.Recipient g.D.Gate.Gate g.C.Clock c.args.clock.now
    c.args.options.now.policy c.args.delivery c.args.queue.shared in
    let workers = of_ok _ _ _ c.in-Ok.is c.serve_all-door.ensures.folds in (
      server_run terms opening c.args.options.now c.report_of.result c.args.queue.pass c.in-Ok.pass
          c.in-Ok.visits workers.logs (ap (λ (pass : PassState). pass.opening) fresh)
          (ap (λ (pass : PassState). pass.capacity) fresh) (ap (λ (pass : PassState). pass.mine) fresh)
          (ap (λ (pass : PassState). pass.folded) fresh) workers.folds c.report_of.ensures,
      workers.gathers,
    )
