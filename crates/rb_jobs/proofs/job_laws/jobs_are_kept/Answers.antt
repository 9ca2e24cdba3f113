-- The law is the lemma of `Histories`.
use Rattle.rb_jobs.proofs.Histories.{jobs_are_kept}
use Rattle.rb_jobs.proofs.job_laws.jobs_are_kept.Goals as goal

pub returns : goal.returns
returns c = jobs_are_kept
