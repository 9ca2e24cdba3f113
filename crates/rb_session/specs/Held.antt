-- What a session holds: elements, in the order in which they were fetched.
use Rattle.std.specs.Prelude.{ℕ, ◌+◌, ◌<◌, ◌≤◌, ◌==◌, List, Option, position}
use Rattle.rb_delayed.specs.declared.element.Element.{Element}
use Rattle.rb_queue.specs.Leaving.{times}
use Rattle.rb_queue.specs.Opening.{ids_of}
use Rattle.rb_retry.specs.Made.{Made, given_by}

-- the place of the element of this id, if it is held
abbrev pub place_of : List Element → ℕ → Option ℕ
place_of held id = position (λ element. element.id == id) held

-- no id is held more often than the desk gave it
abbrev pub AreGiven : List Made → List Element → Type 0
AreGiven mades held = (id : ℕ) → times id (ids_of held) ≤ times id (given_by mades)

-- none of these elements has an id that is held, and no two have the same
abbrev pub AreNew : List Element → List Element → Type 0
AreNew held elements =
    (id : ℕ) → 0 < times id (ids_of elements) → times id (ids_of held) + times id (ids_of elements) ≤ 1
