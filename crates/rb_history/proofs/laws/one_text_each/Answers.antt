-- The law is the lemma of `OneTexts`: a history and a version settle the text.
use Rattle.rb_history.proofs.OneTexts.{one_text_each}
use Rattle.rb_history.proofs.laws.one_text_each.Goals as goal

pub returns : goal.returns
returns c = one_text_each
