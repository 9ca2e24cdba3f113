-- The element is pushed behind the other offers, and its attempt is marked unless it is a first.
use Rattle.std.proofs.Common.{refl}
use Rattle.std.proofs.lemmas.Result.{on_ok_weaker}
use Rattle.rb_replay.proofs.AttemptIndexes.{keeps_offered}
use Rattle.rb_replay.proofs.attempt_index.AttemptIndex.keep_offer.Goals as goal

pub returns : goal.returns
returns c =
    on_ok_weaker c.mark_retry.result (keeps_offered c.args.element.now c.args.self.now _ c.in_ok-push.ensures.items refl refl refl c.requires)
    (rw c.of.ensures at c.mark_retry.ensures)
