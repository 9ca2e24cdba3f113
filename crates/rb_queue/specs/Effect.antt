-- What an act does to the queue. All that an act changes follows from its effect.
use Rattle.std.specs.Prelude.{ℕ, ◌+◌, List, [], ◌∷◌, Option, Some, None, if◌then◌else◌}
use Rattle.std.specs.FinMap as map
use Rattle.rb_delayed.specs.declared.element.Element.{Element}
use Rattle.rb_queue.specs.Bag.{without}
use Rattle.rb_queue.specs.Queue.{Queue}
use Rattle.rb_queue.specs.declared.act.Act.{Act}
use Rattle.rb_queue.specs.declared.act.Act.TheVariants.{Offer, Poll, Take, PollFor, Peek, Remove, Drain, Clear, Size}

pub data Effect : Type 0 where
  -- the element comes in
  inserts : (element : Element) → Effect
  -- the elements of these ids leave, one after the other, and the caller gets them
  gives : (ids : List ℕ) → Effect
  -- the elements of these ids leave, and nobody gets them
  removes : (ids : List ℕ) → Effect
  -- every element leaves, and nobody gets it
  empties : Effect

-- the id, if there is one
abbrev pub listed : Option ℕ → List ℕ
listed None = []
listed (Some id) = id ∷ []

abbrev pub effect_of : Act → Effect
effect_of (Offer element) = inserts element
effect_of (Poll given) = gives (listed given)
effect_of (Take id) = gives (id ∷ [])
effect_of (PollFor start timeout given) = gives (listed given)
effect_of (Peek shown) = gives []
effect_of (Remove id found) = removes (if found then id ∷ [] else [])
effect_of (Drain max ids) = gives ids
effect_of Clear = empties
effect_of (Size count) = gives []

-- the queue that an effect leaves
abbrev pub queue_after : Queue → Effect → Queue
queue_after queue (inserts element) =
    record { bag = map.insert queue.bag element.id element; next_id = queue.next_id + 1 }
queue_after queue (gives ids) = record queue { bag = without queue.bag ids }
queue_after queue (removes ids) = record queue { bag = without queue.bag ids }
queue_after queue empties = record queue { bag = map.empty }

-- the elements that come in
abbrev pub inserted : Effect → List Element
inserted (inserts element) = element ∷ []
inserted (gives ids) = []
inserted (removes ids) = []
inserted empties = []

-- the ids that the caller gets
abbrev pub given : Effect → List ℕ
given (inserts element) = []
given (gives ids) = ids
given (removes ids) = []
given empties = []

-- the ids that are removed, and nobody gets
abbrev pub removed : Effect → List ℕ
removed (inserts element) = []
removed (gives ids) = []
removed (removes ids) = ids
removed empties = []

-- how many elements are cleared, if this many are in the queue
abbrev pub cleared : Effect → ℕ → ℕ
cleared (inserts element) count = 0
cleared (gives ids) count = 0
cleared (removes ids) count = 0
cleared empties count = count
