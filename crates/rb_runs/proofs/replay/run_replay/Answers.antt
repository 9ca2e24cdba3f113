-- The line and the status tell the verdict, which is that on the history of the text.
use Rattle.rb_runs.proofs.replay.run_replay.Goals as goal

pub returns-clause-each : goal.returns-clause-each
returns-clause-each c opening events right rights is = (
  c.in_ok-verdict.verdict,
  c.in_ok-verdict.ensures.each opening events right rights is,
  record { line_is = c.in_ok-line.ensures.text; status_is = c.status.ensures },
)
