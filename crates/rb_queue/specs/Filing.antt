-- How the elements lie in their slots. No public clause cites this module.
use Rattle.std.specs.Prelude.{◌≡◌, ℕ, ◌<◌, List, [], ◌∷◌, Option, Some, None, IsSome, IsSomeAnd, nat_eq, option_map}
use Rattle.std.specs.FinMap as map
use Rattle.std.specs.declared.hash.FoldHasher.{FoldHasher}
use Rattle.std.specs.declared.hash.BuildHasherDefault.{BuildHasherDefault}
use Rattle.indexmap.specs.IndexMap as index
use Rattle.rb_delayed.specs.declared.element.Element.{Element}
use Rattle.rb_timer.specs.Content.{Content}
use Rattle.rb_queue.specs.Bag.{Bag}
use Rattle.slab.specs.Slab.{Slab, get, slab_len}

-- from id to slot
abbrev pub Directory : Type 0
Directory = index.IndexMap ℕ ℕ (BuildHasherDefault FoldHasher)

-- the slot of an id
abbrev pub slot_of : Directory → ℕ → Option ℕ
slot_of directory id = index.get nat_eq directory id

-- the elements that lie in these slots
abbrev pub bag_of : List (Option Element) → Bag
bag_of [] = map.empty
bag_of (None ∷ slots) = bag_of slots
bag_of (Some element ∷ slots) = map.insert (bag_of slots) element.id element

-- the timer has the expiry of each element at its slot, and the directory its slot at its id
pub record IsFiled (elements : Slab Element) (content : Content) (directory : Directory) : Type 0 where
  pub timed : (slot : ℕ) → map.get content slot ≡ option_map (λ element. element.expiry) (get elements slot)
  pub listed : (slot : ℕ) (element : Element) → get elements slot ≡ Some element
      → slot_of directory element.id ≡ Some slot
  pub filed : (id slot : ℕ) → slot_of directory id ≡ Some slot
      → IsSomeAnd (get elements slot) (λ element. element.id ≡ id)
  pub counted : slab_len elements ≡ map.len (bag_of elements.slots)

-- each id of the bag is below the next one
pub record AreBelow (bag : Bag) (next_id : ℕ) : Type 0 where
  pub below : (id : ℕ) → IsSome (map.get bag id) → id < next_id
