-- The law is the lemma of `NextRuns`.
use Rattle.rb_jobs.proofs.NextRuns.{script_hands_jobs_on}
use Rattle.rb_jobs.proofs.job_laws.script_hands_jobs_on.Goals as goal

pub returns : goal.returns
returns g c = script_hands_jobs_on g.W.Write.contents
