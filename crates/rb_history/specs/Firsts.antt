-- The expiry of a job's first offer, which the texts of the first two versions leave out.
use Rattle.std.specs.Prelude.{◌≡◌, ℕ, ◌==◌, All, List, [], ◌∷◌, ◌++◌, Option, Some, None, if◌then◌else◌}
use Rattle.rb_delayed.specs.declared.element.Element.{Element}
use Rattle.rb_queue.specs.declared.event.Event.{Event}
use Rattle.rb_history.specs.Offers.{offers_in}
use Rattle.rb_history.specs.declared.version.Version.{Version}
use Rattle.rb_history.specs.declared.version.Version.TheVariants.{One, Two, Three}

-- the expiry of the earliest of these elements with the origin
abbrev pub earliest : List Element → ℕ → Option ℕ
earliest [] origin = None
earliest (element ∷ elements) origin =
    if element.origin == origin then Some element.expiry else earliest elements origin

-- each of these elements has as its first expiry that of the earliest with its origin
abbrev pub HaveEarliest : List Element → Type 0
HaveEarliest elements = All (λ (element : Element). earliest elements element.origin ≡ Some element.first) elements

-- the version's lines have the first expiries of the elements, or these follow from the lines
abbrev pub FirstsFollow : Version → List Element → List Event → Type 0
FirstsFollow One kept events = HaveEarliest (kept ++ offers_in events)
FirstsFollow Two kept events = HaveEarliest (kept ++ offers_in events)
FirstsFollow Three kept events = Unit {0}
