-- The act and the reply have the same count, and the queue is as before.
use Rattle.std.proofs.Common.{refl}
use Rattle.rb_kept.proofs.perform.size.Goals as goal

pub returns : goal.returns
returns g c = λ now. record { of_ask = tt; acts = c.size-count.ensures now; reply = refl }
