-- Only the first expiry of the offered element changes, and nothing else of the event.
use Rattle.std.proofs.Common.{refl}
use Rattle.rb_history.proofs.Settlings.{event_settled}
use Rattle.rb_history.proofs.firsts.Firsts.settle_event.Goals as goal

pub returns-in_ok-element : goal.returns-in_ok-element
returns-in_ok-element c =
    event_settled _ _ c.args.event.now _ c.in-Offer.element _ c.in-Offer.is refl refl refl refl refl refl refl refl refl c.in_ok-element.ensures
