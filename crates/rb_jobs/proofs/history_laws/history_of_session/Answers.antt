-- A kept desk's own relations are those of the lemmas.
use Rattle.rb_jobs.proofs.KeptEvents.{records_by_lines, records_by_closing}
use Rattle.rb_jobs.proofs.history_laws.history_of_session.Goals as goal

pub returns-clause-lines : goal.returns-clause-lines
returns-clause-lines g c = records_by_lines

pub returns-clause-closing : goal.returns-clause-closing
returns-clause-closing g c = records_by_closing
