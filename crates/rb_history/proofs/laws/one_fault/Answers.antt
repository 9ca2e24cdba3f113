-- The law is the lemma of `OneFaults`: a text has its first fault and no other.
use Rattle.rb_history.proofs.OneFaults.{one_fault}
use Rattle.rb_history.proofs.laws.one_fault.Goals as goal

pub returns : goal.returns
returns c = one_fault
