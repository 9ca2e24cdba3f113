-- A queue without a next expiry is empty, so none in it is expired.
use Rattle.std.proofs.Common.{refl}
use Rattle.rb_replay.proofs.Judgements.{none_in_empty}
use Rattle.rb_replay.proofs.judge.none_expired.Goals as goal

pub returns-in-None : goal.returns-in-None
returns-in-None c = (λ _. none_in_empty _ _ c.in-None.ensures, λ _. refl)
