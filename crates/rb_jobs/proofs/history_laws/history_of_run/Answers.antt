-- A kept desk's own relations are those of the lemmas.
use Rattle.rb_jobs.proofs.RunEvents.{records_by_run}
use Rattle.rb_jobs.proofs.history_laws.history_of_run.Goals as goal

pub returns : goal.returns
returns g c = records_by_run g.W.Write.contents
