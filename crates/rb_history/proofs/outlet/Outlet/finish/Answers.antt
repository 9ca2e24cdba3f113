-- What was pushed was sent, or a first part of it: nothing is gathered any more.
use Rattle.std.proofs.Common.{rules}
use Rattle.rb_history.proofs.Outlets.{all_sent, part_sent}
use Rattle.rb_history.proofs.outlet.Outlet.finish.Goals as goal

pub returns-in_err-self-clause-sent : goal.returns-in_err-self-clause-sent
returns-in_err-self-clause-sent g c = λ got text held.
    part_sent c.from_residual.result _ got _ _ text (search rules) (c.hand_on.ensures.grows.holds got text held)

pub returns-clause-sent : goal.returns-clause-sent
returns-clause-sent g c = λ got text held.
    all_sent c.flush.result c.hand_on.new.self.sent got _ _ _ text (search rules) c.hand_on.ensures.clear c.flush.ensures.kept
    (c.hand_on.ensures.grows.holds got text held)
