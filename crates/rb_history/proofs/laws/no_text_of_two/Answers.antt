-- The law is the lemma of `OneTexts`: no two histories share a text, nor two versions.
use Rattle.rb_history.proofs.OneTexts.{no_text_of_two}
use Rattle.rb_history.proofs.laws.no_text_of_two.Goals as goal

pub returns : goal.returns
returns c = no_text_of_two
