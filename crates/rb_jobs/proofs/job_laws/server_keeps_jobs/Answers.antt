-- The laws are the lemmas of `ServedHands`, on the terms of visits at any door.
use Rattle.rb_serving.specs.Terms.{terms_of}
use Rattle.rb_jobs.proofs.ServedHands.{server_keeps_jobs, visits_keep_jobs}
use Rattle.rb_jobs.proofs.job_laws.server_keeps_jobs.Goals as goal

pub returns-clause-lines : goal.returns-clause-lines
returns-clause-lines g c clock policy delivery table =
    visits_keep_jobs
    (terms_of g.D.Reader.Read g.D.Writer.Recipient g.D.Gate.Gate g.C.Clock clock policy delivery table)

pub returns-clause-run : goal.returns-clause-run
returns-clause-run g c clock policy delivery table =
    server_keeps_jobs
    (terms_of g.D.Reader.Read g.D.Writer.Recipient g.D.Gate.Gate g.C.Clock clock policy delivery table)
