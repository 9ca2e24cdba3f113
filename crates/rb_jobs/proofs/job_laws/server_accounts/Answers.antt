-- The law is the lemma of `RunAccounts`, on the terms of visits at any door.
use Rattle.rb_serving.specs.Terms.{terms_of}
use Rattle.rb_jobs.proofs.RunAccounts.{server_accounts}
use Rattle.rb_jobs.proofs.job_laws.server_accounts.Goals as goal

pub returns : goal.returns
returns g c clock policy delivery table =
    server_accounts
    (terms_of g.D.Reader.Read g.D.Writer.Recipient g.D.Gate.Gate g.C.Clock clock policy delivery table)
