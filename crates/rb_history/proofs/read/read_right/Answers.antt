-- The header, what was read behind it and the first expiries make it the text of that history.
use Rattle.rb_history.proofs.WholeTexts.{is_text}
use Rattle.rb_history.proofs.read.read_right.Goals as goal

pub returns-clause-reads : goal.returns-clause-reads
returns-clause-reads c =
    (c.in-Some.version, is_text c.in-Some.version c.args.text.now c.in-Some.behind.now c.in_ok-told.told _ c.in-Some.ensures.some c.in_ok-told.ensures.ok c.in-Ok.ensures)
