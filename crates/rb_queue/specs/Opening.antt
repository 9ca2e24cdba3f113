-- What a run may begin with.
use Rattle.std.specs.Prelude.{ℕ, ◌<◌, ◌≤◌, List, length, map, slice_index}
use Rattle.rb_delayed.specs.declared.element.Element.{Element}
use Rattle.rb_queue.specs.declared.opening.TheConstants.{MOST_OPENING_ELEMENTS, GREATEST_OPENING_ID}

-- the ids of these elements
abbrev pub ids_of : List Element → List ℕ
ids_of elements = map (λ element. element.id) elements

-- the ids rise, and all are below the end
pub record AreInOrder (elements : List Element) (end : ℕ) : Type 0 where
  pub rising : (one other : ℕ) → one < other → other < length elements
      → slice_index (ids_of elements) one < slice_index (ids_of elements) other
  pub below : (place : ℕ) → place < length elements → slice_index (ids_of elements) place < end

-- The elements are in rising order of their ids, all below `next_id`, and neither number is too great.
pub record IsOpening (elements : List Element) (next_id : ℕ) : Type 0 where
  pub order : AreInOrder elements next_id
  pub few : length elements ≤ MOST_OPENING_ELEMENTS
  pub next : next_id ≤ GREATEST_OPENING_ID
