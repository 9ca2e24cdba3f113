-- What the events of a history offered.
use Rattle.std.specs.Prelude.{List, [], ◌∷◌, ◌++◌}
use Rattle.rb_delayed.specs.declared.element.Element.{Element}
use Rattle.rb_queue.specs.Effect.{effect_of, inserted}
use Rattle.rb_queue.specs.declared.event.Event.{Event}

-- the elements that these events offered, in order
abbrev pub offers_in : List Event → List Element
offers_in [] = []
offers_in (event ∷ events) = inserted (effect_of event.act) ++ offers_in events
