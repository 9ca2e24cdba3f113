-- The elements that stand are in order, so they are too many, or the next id is too great.
use Rattle.std.proofs.Common.{sym, subst}
use Rattle.rb_queue.specs.Opening.{AreInOrder, IsOpening}
use Rattle.rb_replay.specs.Replaying.{end_state}
use Rattle.rb_replay.proofs.Ordered.{too_large}
use Rattle.rb_replay.proofs.calls.opening_of.opening_at.Goals as goal

pub returns-in-None : goal.returns-in-None
returns-in-None c =
    let order = subst (AreInOrder c.in-Ok.elements) (sym c.next_id.ensures) c.in-Ok.ensures.order in
    let none : ¬ IsOpening c.in-Ok.elements c.next_id.result = λ h. let some = c.in-None.ensures.opening.1 h in absurd (cc) in
    too_large c.in-Ok.elements (end_state c.args.end.now) c.next_id.result order c.in-Ok.ensures.counted c.next_id.ensures none
