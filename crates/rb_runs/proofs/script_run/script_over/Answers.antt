-- The script was run over the queue of the opening; or there was no memory for it, and nothing was done.
use Rattle.std.proofs.Common.{refl}
use Rattle.rb_runs.proofs.ScriptRuns.{unbegun}
use Rattle.rb_runs.proofs.script_run.script_over.Goals as goal

pub returns-in-Some-clause-ran : goal.returns-in-Some-clause-ran
returns-in-Some-clause-ran g c = rw (c.unbegun.ensures, c.in-Some.is) (unbegun _ _ _ _ _ (refl, refl, refl))

pub returns-in-None-clause-ran : goal.returns-in-None-clause-ran
returns-in-None-clause-ran g c = rw (c.unbegun-in-None.ensures, c.in-None.is) (unbegun _ _ _ _ _ (refl, refl))

pub returns-in-Some-history-clause-ran : goal.returns-in-Some-history-clause-ran
returns-in-Some-history-clause-ran g c =
    let made = c.in-Ok.ensures in
    rw c.in-Some-history.is
    (rw (made.policy, made.queue.capacity, made.delivery, made.queue.opening_is) at c.run.ensures.ran)
