-- The session ran from a new desk over the queue.
use Rattle.std.proofs.Common.{rules, refl, ap, ◌∙◌}
use Rattle.rb_retry.specs.KeptSteps.{KeptState}
use Rattle.rb_runs.proofs.ScriptRuns.{leads_to}
use Rattle.rb_runs.proofs.ready_script.ReadyScript.run_session.Goals as goal

pub returns-clause-ran : goal.returns-clause-ran
returns-clause-ran g c =
    let session = c.run_in-writer.ensures in
    let same = session.name ∙ ap (λ (state : KeptState). state.name) c.new-desk.ensures.state in
    leads_to _ _ _ _ _ _ c.args.self.kept _ c.args.self.tally _ _ _ c.new-desk.ensures.state refl
    c.args.self.unused refl c.args.self.uncounted session.ran (search (rules, same))
