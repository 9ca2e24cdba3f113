-- The counting writer is the writer that it was made of.
use Rattle.std.proofs.Common.{rules, ap, sym, ◌∙◌}
use Rattle.rb_runs.proofs.script.script_to.Goals as goal

pub returns-in-Some-clause-ran : goal.returns-in-Some-clause-ran
returns-in-Some-clause-ran g c =
    let script = c.run_script_delivered.ensures in
    let name = sym (script.on.same_reference ∙ c.new-writer.ensures.same_reference) in
    let ran = rw (ap g.W.Write.contents c.new-writer.ensures.same) at script.ran in
    rw c.in-Some.is (search rules)
