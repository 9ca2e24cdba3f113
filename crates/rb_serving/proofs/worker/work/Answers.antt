-- One visitor more came, and is counted with those before; or the door had no more.
use Rattle.std.proofs.Common.{rules, None, Some, [], ◌∷◌, ◌++◌, refl, ◌∙◌}
use Rattle.rb_serving.specs.DoorSteps.{Sees, LetIn, TurnedAway, NoMore, Left}
use Rattle.rb_serving.specs.Terms.{service_terms}
use Rattle.rb_serving.proofs.ServedVisits.{counts_session, seen_both, worked_on, works_more}
use Rattle.rb_serving.proofs.worker.work.Goals as goal
use Rattle.rb_serving.proofs.worker.work.Goals.{in-Some-Err, in-Some-Ok, in-None, in-Some+in-None-next}

pub loop-preserved : goal.loop-preserved
loop-preserved g c =
    let terms =
    service_terms g.D.Reader.Read g.D.Writer.Recipient g.D.Gate.Gate g.C.Clock c.args.service.now in
    let before = c.loop.invariant in elim c.match-this.branch [
      | in-Some-Err w ↦ rw (w.room-is, w.pass-is, w.door-is) (record {
        room = before.room;
        worked = before.worked;
        ready = (let ready = c.next-in-loop.ensures.still_ready in search rules);
        visits = works_more terms g.D.Door.has_seen c.loop.door c.next-in-loop.new.self c.args.pass c.loop.pass c.loop.pass
            c.loop.counts c.match-this.visit c.with-counts.result (TurnedAway ∷ []) None before.visits
            (let away = c.next-in-loop.ensures.turned_away in search rules) refl
            (w.visit-is ∙ w.of_refusal-visit.ensures) c.with-counts.ensures;
      })
      | in-Some-Ok w ↦
          let done = w.serve_visit-ended in
          let ran = done.ensures.ran in
          let left = ran.2 in
          rw (w.room-is, w.pass-is, w.door-is) (record {
            room = done.ensures.room;
            worked = worked_on c.args.pass c.loop.pass done.new.pass before.worked done.ensures.worked;
            ready = done.ensures.ready;
            visits = works_more terms g.D.Door.has_seen c.loop.door done.new.door c.args.pass c.loop.pass done.new.pass
                c.loop.counts c.match-this.visit c.with-counts.result (LetIn _ ∷ Left left.reader left.status left.writer ∷ [])
                (Some ran.0) before.visits
                (seen_both terms g.D.Door.has_seen c.loop.door c.next-in-loop.new.self done.new.door (LetIn _)
                (Left left.reader left.status left.writer) (let lets = c.next-in-loop.ensures.let_in in search rules) left.left)
                (done.new.pass, left.ran, refl)
                (counts_session c.match-this.visit w.of_session-visit.result done.result ran.0 w.visit-is w.of_session-visit.ensures ran.1) c.with-counts.ensures;
          })
    ]

pub returns-clause-worked : goal.returns-clause-worked
returns-clause-worked g c =
    let worked = c.loop.invariant.worked in
    let visits = c.loop.invariant.visits in
    elim c.match-next.branch [
      | in-None w ↦ absurd (let steps = c.next.ensures.steps in let none = w.in-None.is in search rules)
      | in-Some+in-None-next w ↦
          let none : Sees g.D.Door.has_seen c.loop.door NoMore w.next-in-loop.new.self =
          (let no_more = w.next-in-loop.ensures.no_more in search rules) in (
            visits.came ++ NoMore ∷ [],
            rw w.door-is (none visits.came visits.seen),
            record {
              alone = worked.folded ∙ c.requires.unused.alone;
              visits = visits.visits;
              works = record {
                capacity = worked.capacity;
                opening = worked.opening;
                first = c.args.pass;
                unused = c.requires.unused;
                came = visits.came;
                served = visits.served;
                no_more = refl;
              };
              counted = visits.counted;
            },
          )
    ]
