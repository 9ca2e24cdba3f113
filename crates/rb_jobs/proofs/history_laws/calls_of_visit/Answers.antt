-- The law is the lemma of `SharedRuns`, on the terms of visits at any door.
use Rattle.rb_serving.specs.Terms.{terms_of}
use Rattle.rb_jobs.proofs.SharedRuns.{calls_by_visit}
use Rattle.rb_jobs.proofs.history_laws.calls_of_visit.Goals as goal

pub returns : goal.returns
returns g c clock policy delivery table =
    calls_by_visit
    (terms_of g.D.Reader.Read g.D.Writer.Recipient g.D.Gate.Gate g.C.Clock clock policy delivery table)
