-- More room changes nothing; then slab, timer and directory get the same element at a free slot.
use Rattle.std.proofs.Common.{◌≡◌, sym, ap, ◌∙◌}
use Rattle.std.specs.FinMap as map
use Rattle.rb_queue.specs.Filing.{bag_of, IsFiled}
use Rattle.rb_queue.proofs.Stores.{added, sound-capacity, updated_by, updated_after, bag-capacity}
use Rattle.rb_queue.proofs.store.Store.insert.Given.{Over}
use Rattle.rb_queue.proofs.store.Store.insert.Goals as goal
use Rattle.rb_queue.proofs.store.Store.insert.Goals.{After-unwrap}

stored : (g : Over) (c : After-unwrap g) → IsFiled c.insert_reserved-slot.new.self (g.T.Timer.content c.insert.new.self) c.insert-2.new.self
    × (bag_of c.insert_reserved-slot.new.self.slots ≡ map.insert c.args.self.now c.args.element.now.id c.args.element.now)
stored g c =
    let sound = sound-capacity c.self.inside.elements c.reserve.new.self _ _ c.self.invariant c.in_ok-reserve.ensures.rest_kept in
    let same = bag-capacity c.self.inside.elements c.reserve.new.self c.in_ok-reserve.ensures.rest_kept ∙ c.self.view_is in
    let absent = ap (λ bag. map.get bag c.args.element.now.id) same ∙ c.requires in
    let timed = rw (c.in_ok-reserve-2.ensures.content, c.expiry.ensures) at c.insert.ensures.content in
    let updates = rw c.unwrap.ensures at c.insert-2.ensures.updates in
    let listed = updated_after c.self.inside.directory c.reserve-3.new.self c.insert-2.new.self c.args.element.now.id _ c.in_ok-reserve-3.ensures.entries
    (updated_by c.reserve-3.new.self c.insert-2.new.self c.id.result c.args.element.now.id _ (sym c.id.ensures) updates.0) in
    let all = added c.reserve.new.self c.insert_reserved-slot.new.self _ _ c.self.inside.directory c.insert-2.new.self c.insert_reserved-slot.result c.args.element.now sound
    absent c.insert_reserved-slot.ensures.was_vacant c.insert_reserved-slot.ensures.updates timed listed c.insert_reserved-slot.ensures.len in
    (all.0, all.1 ∙ ap (λ bag. map.insert bag c.args.element.now.id c.args.element.now) same)

pub invariant_of-self-2 : goal.invariant_of-self-2
invariant_of-self-2 g c = (stored g (goal.at.invariant_of-self-2 g c).After-unwrap).0

pub returns-clause-ok : goal.returns-clause-ok
returns-clause-ok g c = (stored g (goal.at.returns-clause-ok g c).After-unwrap).1
