-- The laws are the lemmas of `Continued`.
use Rattle.rb_jobs.proofs.Continued.{jobs_are_accepted, jobs_go_on, none_are_jobs}
use Rattle.rb_jobs.proofs.job_laws.jobs_go_on.Goals as goal

pub returns-clause-accepted : goal.returns-clause-accepted
returns-clause-accepted c = jobs_are_accepted

pub returns-clause-empty : goal.returns-clause-empty
returns-clause-empty c = none_are_jobs

pub returns-clause-next : goal.returns-clause-next
returns-clause-next c = jobs_go_on
