-- The law is the lemma of `NextRuns`, on the terms of visits at any door.
use Rattle.rb_serving.specs.Terms.{terms_of}
use Rattle.rb_jobs.proofs.NextRuns.{server_hands_jobs_on}
use Rattle.rb_jobs.proofs.job_laws.server_hands_jobs_on.Goals as goal

pub returns : goal.returns
returns g c clock policy delivery table =
    server_hands_jobs_on
    (terms_of g.D.Reader.Read g.D.Writer.Recipient g.D.Gate.Gate g.C.Clock clock policy delivery table)
