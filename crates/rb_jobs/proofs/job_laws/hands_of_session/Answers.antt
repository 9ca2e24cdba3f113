-- The laws of a desk say what each call of it makes.
use Rattle.std.specs.Io.KnownBytes.{IsAtEnd}
use Rattle.rb_retry.specs.DeskRules.{desk_rules}
use Rattle.rb_session.specs.Rules.{session_rules, HadGotBehind}
use Rattle.rb_session.specs.declared.delivery.Delivery.TheVariants.{AtOnce}
use Rattle.rb_jobs.specs.SessionHands.{LeadsOn}
use Rattle.rb_jobs.proofs.SessionHands.{goes_miss, goes_same, goes_then, goes_way, goes_ends}
use Rattle.rb_jobs.proofs.Sessions.{along_lines, along_closing, along_run}
use Rattle.rb_jobs.proofs.job_laws.hands_of_session.Goals as goal

pub returns-clause-lines : goal.returns-clause-lines
returns-clause-lines g c policy from to turns =
    let desk = desk_rules g.D.Desk policy in
    along_lines (session_rules desk AtOnce (λ text. Unit {0})) (LeadsOn policy g.D.Desk.mine)
    (goes_same desk g.D.Desk.mine g.met.D.Desk.makes g.met.D.Desk.refuses g.met.D.Desk.stays)
    (goes_then desk g.D.Desk.mine g.met.D.Desk.makes g.met.D.Desk.refuses g.met.D.Desk.stays)
    (goes_way desk g.D.Desk.mine g.met.D.Desk.makes g.met.D.Desk.refuses g.met.D.Desk.stays)
    (goes_ends desk g.D.Desk.mine g.met.D.Desk.makes g.met.D.Desk.refuses g.met.D.Desk.stays) from to turns

pub returns-clause-closing : goal.returns-clause-closing
returns-clause-closing g c policy from to held lost =
    let desk = desk_rules g.D.Desk policy in
    along_closing (session_rules desk AtOnce (λ text. Unit {0})) (LeadsOn policy g.D.Desk.mine)
    (goes_same desk g.D.Desk.mine g.met.D.Desk.makes g.met.D.Desk.refuses g.met.D.Desk.stays)
    (goes_then desk g.D.Desk.mine g.met.D.Desk.makes g.met.D.Desk.refuses g.met.D.Desk.stays)
    (goes_way desk g.D.Desk.mine g.met.D.Desk.makes g.met.D.Desk.refuses g.met.D.Desk.stays)
    (goes_ends desk g.D.Desk.mine g.met.D.Desk.makes g.met.D.Desk.refuses g.met.D.Desk.stays) from to held lost

pub returns-clause-run : goal.returns-clause-run
returns-clause-run g c policy got delivery rest from to served =
    let desk = desk_rules g.D.Desk policy in
    along_run (session_rules desk delivery (HadGotBehind g.W.Write.contents got)) (LeadsOn policy g.D.Desk.mine)
    (goes_same desk g.D.Desk.mine g.met.D.Desk.makes g.met.D.Desk.refuses g.met.D.Desk.stays)
    (goes_then desk g.D.Desk.mine g.met.D.Desk.makes g.met.D.Desk.refuses g.met.D.Desk.stays)
    (goes_way desk g.D.Desk.mine g.met.D.Desk.makes g.met.D.Desk.refuses g.met.D.Desk.stays)
    (goes_ends desk g.D.Desk.mine g.met.D.Desk.makes g.met.D.Desk.refuses g.met.D.Desk.stays)
    (goes_miss desk g.D.Desk.mine g.met.D.Desk.makes g.met.D.Desk.refuses g.met.D.Desk.stays g.met.D.Desk.misses)
    (IsAtEnd rest) from to served
