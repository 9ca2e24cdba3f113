-- Only an offer can break a chain, so the test of the event is that of its element.
use Rattle.rb_replay.proofs.ChainedHistories.{linked_event}
use Rattle.rb_replay.proofs.calls.chains.check_event.Goals as goal

pub returns-in-Offer : goal.returns-in-Offer
returns-in-Offer c = λ came past recalls.
    linked_event c.args.policy.now past c.args.event.now c.in-Offer.element c.check_offer.result c.in-Offer.is (c.check_offer.ensures came past recalls)
