-- What came back is seen at the entrance, behind what was seen before.
use Rattle.std.proofs.Common.{subst}
use Rattle.rb_serving.specs.DoorSteps.{Left}
use Rattle.rb_serving.proofs.TcpEntrances.{sees_more}
use Rattle.rb_serving.proofs.tcp_entrance.TcpEntranceDoor.leave.Goals as goal

pub returns-clause-seen : goal.returns-clause-seen
returns-clause-seen g c =
    sees_more g.L.Listener c.args.self.now.door.now c.args.self.now.no_more (Left _ _ _)
    (subst (λ told. g.L.Listener.closes c.args.self.now.door.now.listener c.args.writer.stream told) (search) c.close.ensures)
