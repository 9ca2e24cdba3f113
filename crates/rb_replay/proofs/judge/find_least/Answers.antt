-- The element's expiry is not above the queue's next one, so none in the bag expires before it.
use Rattle.rb_replay.proofs.Judgements.{found_least}
use Rattle.std.proofs.Common.{sym}
use Rattle.rb_replay.proofs.judge.find_least.Goals as goal

pub returns : goal.returns
returns c = (
  sym c.in-Some.ensures.element,
  found_least c.args.queue.now.bag c.args.id c.in-Some.element _ _ c.in-Some.ensures.element c.in-Some.ensures.named c.next_expiry.ensures
      c.unwrap_or-least.ensures c.if-least-element.false,
)
