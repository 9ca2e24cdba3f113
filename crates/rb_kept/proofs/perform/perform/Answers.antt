-- Each call is made for its own kind of ask, and what it ensures is asked for that kind. The element that the queue
-- made is one of the draft that the ask has.
use Rattle.std.proofs.Common.{refl}
use Rattle.rb_kept.proofs.perform.perform.Goals as goal

pub returns-in-Ok : goal.returns-in-Ok
returns-in-Ok g c = rw c.in-Offer.is (record { of_ask = c.in-Ok.ensures.drafted; acts = c.in-Ok.ensures.offers c.args.at; reply = refl })

pub returns-in-Peek : goal.returns-in-Peek
returns-in-Peek g c = rw c.in-Peek.is (c.peek.ensures c.args.at)

pub returns-in-Remove : goal.returns-in-Remove
returns-in-Remove g c = rw c.in-Remove.is (c.remove.ensures c.args.at)

pub returns-in-Clear : goal.returns-in-Clear
returns-in-Clear g c = rw c.in-Clear.is (c.clear.ensures c.args.at)

pub returns-in-Size : goal.returns-in-Size
returns-in-Size g c = rw c.in-Size.is (c.size.ensures c.args.at)
