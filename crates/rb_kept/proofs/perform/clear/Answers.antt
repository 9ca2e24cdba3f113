-- Any clear is an act of the ask, and the queue's own clause says what it does.
use Rattle.std.proofs.Common.{refl}
use Rattle.rb_kept.proofs.perform.clear.Goals as goal

pub returns : goal.returns
returns g c = λ now. record { of_ask = tt; acts = c.clear.ensures now; reply = refl }
