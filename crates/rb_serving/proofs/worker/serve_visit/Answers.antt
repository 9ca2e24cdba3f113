-- The session ran at a new desk over the worker's pass, which has seen what the desk did, and the door got back the rest.
use Rattle.std.proofs.Common.{rules, ◌∙◌, sym, ap}
use Rattle.rb_shared_desk.specs.SharedSteps.{name_of}
use Rattle.rb_serving.specs.Terms.{service_terms}
use Rattle.rb_serving.proofs.RanVisits.{demanded, has_left, has_ran, is_desk}
use Rattle.rb_serving.proofs.worker.serve_visit.Goals as goal

pub returns-clause-ran : goal.returns-clause-ran
returns-clause-ran g c =
    let terms = service_terms g.D.Reader.Read g.D.Writer.Recipient g.D.Gate.Gate g.C.Clock c.args.service.now in
    let limited = c.new-limited.ensures in
    let session = c.run_in-ended in
    let outlet = c.new-outlet.ensures in
    let made = c.of-status.ensures in
    let on = session.ensures.on in
    let desk_name = session.ensures.name ∙ ap name_of c.new-desk.ensures.state in
    let name = sym (on.same_reference ∙ outlet.same_reference) in
    let status_name = sym (on.same_status ∙ outlet.same_status) in
    let writer = c.writer-3-1.given.0 in
    let status = c.status-2-1.given.0 in
    has_left terms c.args.visit c.args.pass.now _ session.new.reader status writer session.result.1 g.D.Door.has_seen _ _
    (has_ran terms c.args.visit c.args.pass.now _ session.new.reader status writer session.result.1 c.new-limited.result
    c.new-outlet.result session.result.0 c.of-status.result _ _ _ c.requires.room session.ensures.begun c.requires.pass limited.same limited.unread outlet.same
    outlet.status made.«open» made.first made.last on (sym (search (rules, name))) (sym (search (rules, status_name)))
    (is_desk c.args.service.now.clock.now c.args.visit.gate _ c.args.pass.now _ c.new-desk.ensures.state)
    session.ensures.ran session.ensures.reason session.ensures.write_reason (search (rules, desk_name)))
    c.leave.ensures.seen

pub leave-requires : goal.leave-requires
leave-requires g c =
    let terms = service_terms g.D.Reader.Read g.D.Writer.Recipient g.D.Gate.Gate g.C.Clock c.args.service.now in
    let visit = c.args.visit in
    let limited = c.new-limited.ensures in
    let session = c.run_in-ended in
    let outlet = c.new-outlet.ensures in
    let made = c.of-status.ensures in
    let on = session.ensures.on in
    let desk_name = session.ensures.name ∙ ap name_of c.new-desk.ensures.state in
    let name = sym (on.same_reference ∙ outlet.same_reference) in
    let status_name = sym (on.same_status ∙ outlet.same_status) in
    let writer = c.writer-3-1.given.0 in
    let status = c.status-2-1.given.0 in
    record {
      served = (
        visit,
        c.args.pass.now,
        c.requires.awaited,
        demanded terms visit c.args.pass.now _ session.new.reader status writer session.result.1
            (has_ran terms visit c.args.pass.now _ session.new.reader status writer session.result.1 c.new-limited.result
            c.new-outlet.result session.result.0 c.of-status.result _ _ _ c.requires.room session.ensures.begun c.requires.pass limited.same limited.unread outlet.same
            outlet.status made.«open» made.first made.last on (sym (search (rules, name))) (sym (search (rules, status_name)))
            (is_desk c.args.service.now.clock.now visit.gate _ c.args.pass.now _ c.new-desk.ensures.state)
            session.ensures.ran session.ensures.reason session.ensures.write_reason (search (rules, desk_name)))
            (λ served ran. c.requires.honest.afterwards visit session.new.reader status writer c.args.pass.now served _ ran),
      );
    }

-- while it runs, the visit's writer gets what it demands
pub run_in-ended-requires : goal.run_in-ended-requires
run_in-ended-requires g c =
    let visit = c.args.visit in
    let from = is_desk c.args.service.now.clock.now visit.gate _ c.args.pass.now _ c.new-desk.ensures.state in
    let fair = c.requires.honest.meanwhile c.args.door.now visit c.args.pass.now _ c.requires.awaited c.requires.pass from in
    rw (sym c.requires.room, sym c.new-limited.ensures.same, sym c.new-outlet.ensures.same) at fair
