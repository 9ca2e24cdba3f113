-- A verdict on what was read is one on the text, and the text of a history can be read.
use Rattle.std.proofs.Common.{Err, subst}
use Rattle.std.proofs.lemmas.Result.{IfOk-weaker}
use Rattle.rb_history.specs.Readings.{IsReadAs}
use Rattle.rb_runs.proofs.TextVerdicts.{verdict_of_text, verdict_same}
use Rattle.rb_runs.proofs.replay.verdict_of.Goals as goal

pub returns-in-Ok-clause-verdict : goal.returns-in-Ok-clause-verdict
returns-in-Ok-clause-verdict c = IfOk-weaker c.judged.result _ _
    (λ verdict on. verdict_of_text c.args.options.now.chains c.in-Ok.ensures.right.0 c.in-Ok.ensures.right.1 c.in-Ok.ensures.reads verdict on) c.judged.ensures.verdict

pub returns-in-Ok-clause-each : goal.returns-in-Ok-clause-each
returns-in-Ok-clause-each c opening events right rights is =
    verdict_same c.args.options.now.chains c.judged.result (c.in-Ok.ensures.each opening events right rights is) c.judged.ensures.verdict

pub returns-in-Err-At-clause-each : goal.returns-in-Err-At-clause-each
returns-in-Err-At-clause-each c opening events right rights is =
    subst (λ fault. IsReadAs opening events (Err fault)) c.in-Err-At.field-0-is (c.in-Err-At.ensures.each opening events right rights is)
