-- The laws of a desk say what each call of it makes.
use Rattle.std.specs.Io.KnownBytes.{IsAtEnd}
use Rattle.rb_retry.specs.DeskRules.{desk_rules}
use Rattle.rb_session.specs.Rules.{session_rules, HadGotBehind}
use Rattle.rb_jobs.proofs.RunEvents.{ends_of, made_by_ends}
use Rattle.rb_jobs.proofs.history_laws.events_of_run.Goals as goal

pub returns : goal.returns
returns g c policy got delivery rest from to served ran =
    let desk = desk_rules g.D.Desk policy in
    let rules = session_rules desk delivery (HadGotBehind g.W.Write.contents got) in
    (made_by_ends desk g.D.Desk.mine g.met.D.Desk.makes g.met.D.Desk.refuses g.met.D.Desk.stays g.met.D.Desk.misses (IsAtEnd rest) from to
    served (ends_of rules (IsAtEnd rest) from to served served.ended ran)).0
