-- The law is the lemma of `Leavings`: what came in has left, or is left.
use Rattle.rb_queue.proofs.Leavings.{is_balanced}
use Rattle.rb_queue.proofs.laws.each_element_counted.Goals as goal

pub returns : goal.returns
returns c = is_balanced
