-- An entry that is in its place stays there.
use Rattle.std.proofs.Common.{sym, ap, ◌∙◌}
use Rattle.indexmap.specs.IndexMap.{move_index}
use Rattle.rb_session.proofs.JobMaps.{stays_there}
use Rattle.rb_session.proofs.job_map.move_entry.Goals as goal

pub returns-else-from-to-clause-entries : goal.returns-else-from-to-clause-entries
returns-else-from-to-clause-entries c =
    sym (stays_there c.args.jobs.now.entries c.args.from)
    ∙ ap (move_index c.args.jobs.now.entries c.args.from) c.if-from-to.false
