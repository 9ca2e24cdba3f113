-- The law is the lemma of `FaultlessTexts`: what is a history's text has no fault.
use Rattle.rb_history.proofs.FaultlessTexts.{no_fault_of_text}
use Rattle.rb_history.proofs.laws.no_fault_of_text.Goals as goal

pub returns : goal.returns
returns c = no_fault_of_text
