-- The law is the lemma of `ScriptEvents`.
use Rattle.rb_jobs.proofs.ScriptEvents.{records_by_script}
use Rattle.rb_jobs.proofs.history_laws.history_of_script.Goals as goal

pub returns : goal.returns
returns g c = records_by_script g.W.Write.contents
