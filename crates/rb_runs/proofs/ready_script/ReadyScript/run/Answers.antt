-- The log that the session led to is what was written.
use Rattle.std.proofs.Common.{refl}
use Rattle.rb_runs.proofs.ScriptRuns.{ran_script}
use Rattle.rb_runs.proofs.ready_script.ReadyScript.run.Goals as goal

pub returns-in-Some-clause-ran : goal.returns-in-Some-clause-ran
returns-in-Some-clause-ran g c =
    let session = c.run_session-writer.ensures in
    rw c.in-Some.is (ran_script _ _ _ _ _ _ _ _ _ session.ran (c.recorded-recording.ensures _ session.begun))

pub returns-clause-ran : goal.returns-clause-ran
returns-clause-ran g c = rw c.in-None.is (ran_script _ _ _ _ _ _ _ _ _ c.run_session-writer.ensures.ran (refl, refl))
