-- The laws are the lemmas of `KeptHands`.
use Rattle.rb_jobs.proofs.KeptHands.{lines_keep_jobs, script_keeps_jobs}
use Rattle.rb_jobs.proofs.job_laws.script_keeps_jobs.Goals as goal

pub returns-clause-lines : goal.returns-clause-lines
returns-clause-lines g c = lines_keep_jobs

pub returns-clause-run : goal.returns-clause-run
returns-clause-run g c = script_keeps_jobs g.W.Write.contents
