-- The law is the lemma of `RunAccounts`.
use Rattle.rb_jobs.proofs.RunAccounts.{script_accounts}
use Rattle.rb_jobs.proofs.job_laws.script_accounts.Goals as goal

pub returns : goal.returns
returns g c = script_accounts g.W.Write.contents
