-- What was printed is the line of the verdict on the history of the text, or a first part of it.
use Rattle.std.proofs.Common.{rules, refl}
use Rattle.std.specs.Prelude.{string_bytes}
use Rattle.rb_runs.proofs.replay.print_replay.Goals as goal

pub returns-in-Ok-clause-each : goal.returns-in-Ok-clause-each
returns-in-Ok-clause-each g c opening events is_opening are_events is_text =
    let (verdict, of_text, tells) = c.in_ok-line.ensures.each opening events is_opening are_events is_text in
    (verdict, of_text, (string_bytes c.in_ok-line.line, tells, search (rules, c.in-Ok.ensures)))

pub returns-clause-each : goal.returns-clause-each
returns-clause-each g c opening events is_opening are_events is_text =
    let (verdict, of_text, tells) = c.in_ok-line.ensures.each opening events is_opening are_events is_text in
    (refl, search (rules, c.in-Err.ensures), (verdict, of_text, (string_bytes c.in_ok-line.line, c.in_ok-line.status, tells, search (rules, c.in-Err.ensures))))
