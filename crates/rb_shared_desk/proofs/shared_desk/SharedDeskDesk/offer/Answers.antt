-- An offer is one call, which the gate does not see.
use Rattle.std.proofs.Common.{length}
use Rattle.rb_shared_desk.specs.WaitRules.{wait_rules}
use Rattle.rb_shared_desk.proofs.SharedEndings.{steps_offered}
use Rattle.rb_shared_desk.proofs.shared_desk.SharedDeskDesk.offer.Goals as goal

pub returns-clause-step : goal.returns-clause-step
returns-clause-step g c =
    let desk = c.args.self.now in
    let offered = c.offer_ring.ensures in
    steps_offered {C = g.row.C.Denot} {G = g.row.G.Denot} (wait_rules g.C.Clock g.G.Gate)
    (record { reference = desk.pass.ghost_name; pass = desk.pass.now; clock = desk.waiter.clock.now; gate = desk.gate.now; before = length desk.start.value.mine })
    c.offer_ring.new.pass c.args.asked c.args.draft c.offer_ring.result desk.earlier c.name.ensures.sound offered.learns offered.tried offered.offered
