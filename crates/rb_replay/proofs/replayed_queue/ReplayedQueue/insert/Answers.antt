-- The queue gives the draft this element's id, so queue and map agree; a refusal empties both.
use Rattle.std.proofs.Common.{refl, sym, subst, ◌∙◌, arith}
use Rattle.rb_queue.specs.Queue.{Queue}
use Rattle.rb_replay.specs.ReplayedQueue.{HasElements}
use Rattle.rb_replay.proofs.Elements.{has_none, has_inserted, has_later, offered_this, at_ok}
use Rattle.rb_replay.proofs.replayed_queue.ReplayedQueue.insert.Goals as goal

pub invariant_of-self : goal.invariant_of-self
invariant_of-self c =
    let next = rw (← c.self.view_is) at c.requires.next in
    let offered = offered_this _ _ c.args.element.now _ c.offer.result (sym c.is_ok.ensures.value ∙ c.if-is_ok.true) c.offer.ensures.offers c.offer.ensures.drafted
    next refl refl refl refl refl in
    let filed = sym c.is_ok-filed.ensures.value ∙ c.if-filed.true in
    subst (λ (q : Queue). HasElements q.bag q.next_id c.insert.new.self) (sym offered)
    (has_inserted _ _ _ _ c.args.element.now (has_later _ _ _ c.self.invariant) (omega (arith, next)) (at_ok c.insert.result _ filed c.insert.ensures.entries)
    (at_ok c.insert.result _ filed c.insert.ensures.updates).0)

pub returns-then-is_ok : goal.returns-then-is_ok
returns-then-is_ok c =
    let next = rw (← c.self.view_is) at c.requires.next in
    rw (← c.self.view_is)
    (offered_this _ _ c.args.element.now _ c.offer.result (sym c.is_ok.ensures.value ∙ c.if-is_ok.true) c.offer.ensures.offers c.offer.ensures.drafted
    next refl refl refl refl refl)

pub invariant_of-self-2 : goal.invariant_of-self-2
invariant_of-self-2 c =
    subst (λ (q : Queue). HasElements q.bag q.next_id c.clear-2.new.self) (sym (c.clear.ensures 0).after) (has_none _ _ c.clear-2.ensures.empty)
