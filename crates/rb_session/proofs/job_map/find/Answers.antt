-- The first entry is the one of its id.
use Rattle.std.proofs.Common.{sym}
use Rattle.rb_session.proofs.JobMaps.{found_first}
use Rattle.rb_session.proofs.job_map.find.Goals as goal

pub returns-in-Some : goal.returns-in-Some
returns-in-Some c =
    sym (found_first c.args.jobs.now.entries (c.in-Some.first.now, c.in-Some.field-0-1.now) c.args.id
    (sym c.in-Some.ensures.entry) c.if-first-id.true)
