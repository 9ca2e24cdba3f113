-- How the replay stores the elements of its queue. No public clause cites this module.
use Rattle.std.specs.Prelude.{◌≡◌, ℕ, ◌<◌, IfSome, List, [], ◌∷◌}
use Rattle.std.specs.Ordering.{nat_cmp}
use Rattle.std.specs.FinMap as map
use Rattle.std.specs.BTreeMap.{BTreeMap}
use Rattle.std.specs.BTreeMap as tree
use Rattle.rb_delayed.specs.declared.element.Element.{Element}
use Rattle.rb_queue.specs.Bag.{Bag}

-- each entry is an element under its id, which is below the end
abbrev pub AreFiled : ℕ → List (ℕ × Element) → Type 0
AreFiled end [] = Unit {0}
AreFiled end ((id, element) ∷ entries) = (element.id ≡ id) × (id < end) × AreFiled end entries

-- the map has each element of the bag, and no other, each under its id
pub record HasElements (bag : Bag) (end : ℕ) (elements : BTreeMap ℕ Element) : Type 0 where
  pub same : (id : ℕ) → tree.get nat_cmp elements id ≡ map.get bag id
  pub named : (id : ℕ) → IfSome (map.get bag id) (λ element. element.id ≡ id)
  pub filed : AreFiled end elements.entries
