-- A bag: elements under their ids, with no order and no doubles.
use Rattle.std.specs.Prelude.{ℕ, List, [], ◌∷◌, map as each, IfSome}
use Rattle.std.specs.Ordering.{nat_cmp}
use Rattle.std.specs.FinMap as map
use Rattle.rb_delayed.specs.declared.element.Element.{Element}
use Rattle.rb_delayed.specs.Moment.{IsExpired}

-- a finite map from id to element
abbrev pub Bag : Type 0
Bag = map.FinMap nat_cmp Element

-- no element of the bag is expired
abbrev pub NoneExpired : Bag → ℕ → Type 0
NoneExpired bag now = (id : ℕ) → IfSome (map.get bag id) (λ element. ¬ IsExpired element.expiry now)

-- the bag of these elements
abbrev pub bag_from : List Element → Bag
bag_from elements = map.from_entries (each (λ element. (element.id, element)) elements)

-- the bag without the elements of these ids
abbrev pub without : Bag → List ℕ → Bag
without bag [] = bag
without bag (id ∷ ids) = without (map.remove bag id) ids
