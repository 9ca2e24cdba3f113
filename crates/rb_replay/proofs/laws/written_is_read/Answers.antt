-- The law is the lemma of `ReadAgain`.
use Rattle.rb_replay.proofs.ReadAgain.{written_is_read}
use Rattle.rb_replay.proofs.laws.written_is_read.Goals as goal

pub returns : goal.returns
returns c = written_is_read
