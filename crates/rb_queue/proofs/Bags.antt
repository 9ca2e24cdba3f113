-- What a bag has at an id, after an insert and after a removal.
use Rattle.std.proofs.Common.{◌≡◌, ◌≢◌, ℕ, ap, sym, ◌∙◌, arith, Some, None, cond, inl, inr, ◌⊎◌}
use Rattle.std.proofs.lemmas.Bool.Decides.{nat_tests}
use Rattle.std.specs.FinMap as map
use Rattle.std.specs.FinMap.{get-insert, get-remove, same_map, nat_cmp-IsAntisymmetric}
use Rattle.std.specs.Ordering.{nat_cmp, eq_by_cmp}
use Rattle.std.specs.Cmp.{nat_cmp_total}
use Rattle.rb_delayed.specs.declared.element.Element.{Element}
use Rattle.rb_queue.specs.Bag.{Bag}
use Rattle.rb_queue.proofs.Options.{same_or_not}

pub get_inserted : (bag : Bag) (k q : ℕ) (e : Element) → map.get (map.insert bag k e) q ≡ cond (eq_by_cmp nat_cmp q k) (Some e) (map.get bag q)
get_inserted bag k q e = get-insert nat_cmp_total bag k e q

pub get_removed : (bag : Bag) (k q : ℕ) → map.get (map.remove bag k) q ≡ cond (eq_by_cmp nat_cmp q k) None (map.get bag q)
get_removed bag k q = get-remove nat_cmp_total bag k q

pub get_removed_same : (bag : Bag) (k : ℕ) → map.get (map.remove bag k) k ≡ None
get_removed_same bag k = get_removed bag k k ∙ grind (arith, nat_tests)

pub get_removed_other : (bag : Bag) (k q : ℕ) → q ≢ k → map.get (map.remove bag k) q ≡ map.get bag q
get_removed_other bag k q differ = get_removed bag k q ∙ grind (arith, nat_tests)

pub get_inserted_same : (bag : Bag) (k : ℕ) (e : Element) → map.get (map.insert bag k e) k ≡ Some e
get_inserted_same bag k e = get_inserted bag k k e ∙ grind (arith, nat_tests)

pub get_inserted_other : (bag : Bag) (k q : ℕ) (e : Element) → q ≢ k → map.get (map.insert bag k e) q ≡ map.get bag q
get_inserted_other bag k q e differ = get_inserted bag k q e ∙ grind (arith, nat_tests)

-- two bags that have the same at each id are one
pub same_bag : (one other : Bag) → ((id : ℕ) → map.get one id ≡ map.get other id) → one ≡ other
same_bag one other same = same_map nat_cmp_total nat_cmp-IsAntisymmetric one other same

-- to remove an id that the bag lacks changes nothing
pub remove_absent : (bag : Bag) (id : ℕ) → map.get bag id ≡ None → map.remove bag id ≡ bag
remove_absent bag id absent = same_bag _ _ (λ other. by_id other (same_or_not other id))
  where
    by_id : (other : ℕ) → (other ≡ id) ⊎ (other ≢ id) → map.get (map.remove bag id) other ≡ map.get bag other
    by_id other (inl same) =
        ap (map.get (map.remove bag id)) same ∙ get_removed_same bag id ∙ sym absent ∙ sym (ap (map.get bag) same)
    by_id other (inr differ) = get_removed_other bag id other differ
