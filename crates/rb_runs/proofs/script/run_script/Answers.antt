-- The counting reader is the reader that it was made of, and the result is that of the report.
use Rattle.std.proofs.Common.{rules, ap, sym, ◌∙◌}
use Rattle.rb_runs.proofs.ScriptRuns.{ends_script}
use Rattle.rb_runs.proofs.script.run_script.Goals as goal

pub returns-in-Some : goal.returns-in-Some
returns-in-Some g c =
    let script = c.script_to.ensures in
    let limited = c.new-limited.ensures in
    let name = sym (script.same_reference ∙ limited.same_reference) in
    let ends = ends_script _ _ _ _ _ _ _ _ _ (ap g.R.Read.remaining limited.same) c.result.ensures script.ran in
    rw c.in-Some.is (search rules)
