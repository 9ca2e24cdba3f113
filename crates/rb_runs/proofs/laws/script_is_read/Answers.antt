-- The law is the lemma of `WrittenRuns`, of any device.
use Rattle.rb_runs.proofs.WrittenRuns.{script_is_read}
use Rattle.rb_runs.proofs.laws.script_is_read.Goals as goal

pub returns : goal.returns
returns g c = script_is_read g.W.Write.contents g.H.Write.contents
