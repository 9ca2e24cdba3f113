-- What the door answered is seen at the entrance, behind what was seen before.
use Rattle.std.proofs.Common.{rules}
use Rattle.rb_serving.proofs.TcpEntrances.{sees_let_in, sees_turned_away, sees_no_more}
use Rattle.rb_serving.proofs.tcp_entrance.TcpEntranceDoor.next.Goals as goal

pub returns-in-Ok-clause-let_in : goal.returns-in-Ok-clause-let_in
returns-in-Ok-clause-let_in g c =
    let given = c.in-Ok.ensures in
    sees_let_in g.L.Listener c.args.self.now.door.now c.args.self.now.no_more c.in-Ok.answer
    (_, search rules, given.left)
    given.let_in

pub returns-in-Ok-clause-turned_away : goal.returns-in-Ok-clause-turned_away
returns-in-Ok-clause-turned_away g c =
    let given = c.in-Ok.ensures in
    sees_turned_away g.L.Listener c.args.self.now.door.now c.args.self.now.no_more c.in-Ok.answer
    (_, search rules, given.left)
    given.turned_away

pub returns-in-Err-clause-no_more : goal.returns-in-Err-clause-no_more
returns-in-Err-clause-no_more g c =
    rw (c.end.ensures.door, c.end.ensures.why)
    (sees_no_more g.L.Listener c.args.self.now.door.now c.args.self.now.no_more c.in-Err.why
    (_, search rules, c.in-Err.ensures.no_more))
