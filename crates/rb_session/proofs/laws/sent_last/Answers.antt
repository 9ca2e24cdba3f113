-- The law is the lemma of `KnownDevices`.
use Rattle.rb_session.proofs.KnownDevices.{sent_last}
use Rattle.rb_session.proofs.laws.sent_last.Goals as goal

pub returns : goal.returns
returns c = sent_last
