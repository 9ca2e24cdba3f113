-- The element goes under its id before any offer, and its attempt is marked unless it is a first.
use Rattle.std.proofs.Common.{refl}
use Rattle.std.proofs.lemmas.Result.{on_ok_weaker}
use Rattle.rb_replay.proofs.AttemptIndexes.{keeps_opened}
use Rattle.rb_replay.proofs.attempt_index.AttemptIndex.keep_opened.Goals as goal

pub returns : goal.returns
returns c =
    on_ok_weaker c.mark_retry.result (keeps_opened c.args.element.now c.args.self.now _ c.requires refl refl refl c.in_ok-insert.ensures.updates.0)
    (rw c.of.ensures at c.mark_retry.ensures)
