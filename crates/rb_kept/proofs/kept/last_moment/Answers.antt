-- The state after a history has the moment of its last event.
use Rattle.std.proofs.Common.{sym}
use Rattle.rb_queue.specs.History.{start_of}
use Rattle.rb_kept.proofs.Logs.{moment_last}
use Rattle.rb_kept.proofs.kept.last_moment.Goals as goal

pub returns-in-Some : goal.returns-in-Some
returns-in-Some c = sym (moment_last (start_of c.args.opening.now) c.args.history.now c.in-Some.event.now (sym c.in-Some.ensures.value))
