-- The laws of a desk say what each call of it makes.
use Rattle.rb_retry.specs.DeskRules.{desk_rules}
use Rattle.rb_jobs.proofs.Events.{makes_by_lines, makes_by_closing}
use Rattle.rb_jobs.proofs.history_laws.events_of_session.Goals as goal

pub returns-clause-lines : goal.returns-clause-lines
returns-clause-lines g c policy =
    makes_by_lines (desk_rules g.D.Desk policy) g.D.Desk.mine g.met.D.Desk.makes g.met.D.Desk.refuses g.met.D.Desk.stays

pub returns-clause-closing : goal.returns-clause-closing
returns-clause-closing g c policy =
    makes_by_closing (desk_rules g.D.Desk policy) g.D.Desk.mine g.met.D.Desk.makes g.met.D.Desk.refuses
    g.met.D.Desk.stays
