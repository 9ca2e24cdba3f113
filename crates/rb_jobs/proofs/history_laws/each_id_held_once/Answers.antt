-- The desk gives no id twice, and a line leaves held only what was given.
use Rattle.rb_retry.specs.DeskRules.{desk_rules}
use Rattle.rb_jobs.proofs.GivenJobs.{holds_once}
use Rattle.rb_jobs.proofs.history_laws.each_id_held_once.Goals as goal

pub returns : goal.returns
returns g c policy =
    holds_once (desk_rules g.D.Desk policy) g.D.Desk.mine g.met.D.Desk.makes g.met.D.Desk.gives_once
    g.met.D.Desk.refuses g.met.D.Desk.stays
