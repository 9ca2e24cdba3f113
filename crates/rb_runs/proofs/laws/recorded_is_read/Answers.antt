-- The law is the lemma of `WrittenRuns`.
use Rattle.rb_runs.proofs.WrittenRuns.{recorded_is_read}
use Rattle.rb_runs.proofs.laws.recorded_is_read.Goals as goal

pub returns : goal.returns
returns c = recorded_is_read
