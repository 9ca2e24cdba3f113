-- Whether an element is one of a list's.
use Rattle.std.specs.Prelude.{◌≡◌, ◌⊎◌, List, [], ◌∷◌}
use Rattle.rb_delayed.specs.declared.element.Element.{Element}

abbrev pub IsAmong : Element → List Element → Type 0
IsAmong element [] = ⊥
IsAmong element (first ∷ elements) = (element ≡ first) ⊎ IsAmong element elements
