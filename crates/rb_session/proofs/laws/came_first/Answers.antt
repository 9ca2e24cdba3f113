-- The law is the lemma of `KnownDevices`.
use Rattle.rb_session.proofs.KnownDevices.{came_first}
use Rattle.rb_session.proofs.laws.came_first.Goals as goal

pub returns : goal.returns
returns c = came_first
