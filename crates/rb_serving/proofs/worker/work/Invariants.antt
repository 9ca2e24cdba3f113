-- The pass has served those who came so far, and these are counted.
use Rattle.std.proofs.Common.{◌≡◌}
use Rattle.rb_serving.specs.Serving.{IsWorked}
use Rattle.rb_serving.specs.Terms.{service_terms}
use Rattle.rb_serving.proofs.ServedVisits.{HasServed}
use Rattle.rb_serving.proofs.worker.work.Given as goal

abbrev pub invariant-loop : goal.invariant-loop
invariant-loop g l = record {
  room : l.room.delivery ≡ l.service.delivery;
  worked : IsWorked l.initial.pass l.pass;
  ready : g.D.Door.is_ready l.door l.pass;
  visits : HasServed (service_terms g.D.Reader.Read g.D.Writer.Recipient g.D.Gate.Gate g.C.Clock l.service)
      g.D.Door.has_seen l.door l.initial.pass l.pass l.counts;
}
