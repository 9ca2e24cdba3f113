-- What the events of a history gave out.
use Rattle.std.specs.Prelude.{List, [], ◌∷◌, ◌++◌}
use Rattle.std.specs.List.{filter_map}
use Rattle.std.specs.FinMap as map
use Rattle.rb_delayed.specs.declared.element.Element.{Element}
use Rattle.rb_queue.specs.Bag.{Bag, bag_from}
use Rattle.rb_queue.specs.Effect.{effect_of, given}
use Rattle.rb_queue.specs.Replies.{with_inserted}
use Rattle.rb_queue.specs.declared.event.Event.{Event}
use Rattle.rb_queue.specs.declared.opening.Opening.{Opening}

-- the elements that these events gave, in order, if those of the bag came in before
abbrev pub elements_given_from : Bag → List Event → List Element
elements_given_from came [] = []
elements_given_from came (event ∷ events) =
    filter_map (map.get came) (given (effect_of event.act))
    ++ elements_given_from (with_inserted came (effect_of event.act)) events

-- the elements that a history gave, in order
abbrev pub elements_given : Opening → List Event → List Element
elements_given opening history = elements_given_from (bag_from opening.elements) history
