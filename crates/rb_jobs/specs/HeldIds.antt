-- Which ids a session may hold: none twice.
use Rattle.std.specs.Prelude.{ℕ, ◌≤◌, List}
use Rattle.rb_delayed.specs.declared.element.Element.{Element}
use Rattle.rb_queue.specs.Leaving.{times}
use Rattle.rb_queue.specs.Opening.{ids_of}

-- no id is held twice
abbrev pub AreHeldOnce : List Element → Type 0
AreHeldOnce held = (id : ℕ) → times id (ids_of held) ≤ 1
