-- A fault among the events is the text's, as the opening before them was right.
use Rattle.std.proofs.lemmas.Result.{err_from_is_err_and}
use Rattle.rb_history.proofs.Bodies.{run_fails}
use Rattle.rb_history.proofs.read_run.read_run.Goals as goal

pub returns-in_err-events-clause-err : goal.returns-in_err-events-clause-err
returns-in_err-events-clause-err c =
    let p = err_from_is_err_and c.from_residual.result c.from_residual.ensures.1 in
    rw (p.1, p.2)
    (run_fails c.args.version c.args.text.now c.in-Ok.cut.1.now c.in-Ok.cut.0 _ _ c.in-Ok.ensures.ok c.line_behind-first.ensures.number c.in_err-events.ensures)
