-- A fault among the elements is the opening's, as the numbers before them were right.
use Rattle.rb_history.proofs.Bodies.{opening_fails}
use Rattle.rb_history.proofs.read_run.read_told.Goals as goal

pub returns-in-Err-clause-err : goal.returns-in-Err-clause-err
returns-in-Err-clause-err c =
    opening_fails c.args.version c.args.text.now c.in_ok-told.behind.now c.in_ok-told.told c.in-Err.fault c.requires c.in_ok-told.ensures.ok c.in-Err.ensures.err
