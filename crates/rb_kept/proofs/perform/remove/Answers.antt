-- The act names the id that was asked for, and the reply tells whether the queue found it.
use Rattle.std.proofs.Common.{refl}
use Rattle.rb_kept.proofs.perform.remove.Goals as goal

pub returns : goal.returns
returns g c = λ now. record { of_ask = refl; acts = c.remove-found.ensures now; reply = refl }
