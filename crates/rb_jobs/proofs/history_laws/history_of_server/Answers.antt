-- The law is the lemma of `ServerEvents`, on the terms of visits at any door.
use Rattle.rb_serving.specs.Terms.{terms_of}
use Rattle.rb_jobs.proofs.ServerEvents.{gathers_sessions}
use Rattle.rb_jobs.proofs.history_laws.history_of_server.Goals as goal

pub returns : goal.returns
returns g c clock policy delivery table =
    gathers_sessions
    (terms_of g.D.Reader.Read g.D.Writer.Recipient g.D.Gate.Gate g.C.Clock clock policy delivery table)
