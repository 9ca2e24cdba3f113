-- A drain gives no more elements than stand or were asked for, so the room for their ids is enough.
use Rattle.std.proofs.Common.{arith}
use Rattle.std.proofs.lemmas.List.{length-map}
use Rattle.rb_delayed.specs.declared.element.Element.{Element}
use Rattle.rb_kept.proofs.perform.drain.Goals as goal

pub ids_of-ids-requires-clause-room : goal.ids_of-ids-requires-clause-room
ids_of-ids-requires-clause-room g c =
    rw c.as_slice.ensures (omega (
      arith,
      (c.size.ensures 0).permitted,
      c.min-most.ensures,
      c.in-Ok.ensures.capacity,
      c.in-Ok-drain.ensures.drains.permitted.at_most,
      c.in-Ok-drain.ensures.few,
      length-map c.in-Ok-drain.items (λ (e : Element). e.id),
    ))
