-- The call changes the kept queue where it lies; the names of the pair stay as they are.
use Rattle.std.proofs.Common.{refl, rules}
use Rattle.rb_lock.proofs.lock.act_on.Goals as goal

pub returns : goal.returns
returns g c = record {
  before = c.in-Some.pair;
  after = record { kept = c.act.new.self; names = c.in-Some.pair.names };
  was = search rules;
  is = refl;
  names = refl;
  legal = c.history.ensures.legal;
  steps = c.act.ensures.step;
  grows = c.act.ensures.tally;
}
