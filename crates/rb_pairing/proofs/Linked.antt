-- What the links of nodes that lie as trees lead to.
use Rattle.std.proofs.Common.{◌≡◌, ℕ, ◌<◌, ◌≢◌, List, length, Some, None, IsSome, sym, ◌∙◌, arith}
use Rattle.std.proofs.Math.Logic.{∥∥₁_elim}
use Rattle.std.proofs.Props.{props}
use Rattle.rb_pairing.specs.declared.node.Node.{Node}
use Rattle.rb_pairing.specs.Nodes.{expiry_of, child_of, next_of, previous_of}
use Rattle.rb_pairing.specs.Forest.{LieAsTrees}
use Rattle.rb_pairing.specs.Changes.{Bypasses}
use Rattle.rb_pairing.proofs.Ancestors.{present_before}
use Rattle.rb_pairing.proofs.Expiries.{same_length}
use Rattle.rb_pairing.proofs.InRoom.{child_in_room, next_in_room, previous_in_room}
use Rattle.rb_pairing.proofs.Neighbours.{present-next, present-child, present-previous}

module _ (nodes : List Node) (linked : LieAsTrees nodes) (slot other : ℕ) where
  -- what is linked to is in the room
  pub child_within : child_of nodes slot ≡ Some other → other < length nodes
  child_within is =
      ∥∥₁_elim linked (hlevel props)
      (λ forest. child_in_room nodes forest.parent forest.rank forest.is_forest slot other is)

  pub next_within : next_of nodes slot ≡ Some other → other < length nodes
  next_within is =
      ∥∥₁_elim linked (hlevel props)
      (λ forest. next_in_room nodes forest.parent forest.rank forest.is_forest slot other is)

  pub previous_within : previous_of nodes slot ≡ Some other → other < length nodes
  previous_within is =
      ∥∥₁_elim linked (hlevel props)
      (λ forest. previous_in_room nodes forest.parent forest.rank forest.is_forest slot other is)

  -- and has an entry, as what has a link has one
  pub child_present : child_of nodes slot ≡ Some other → IsSome (expiry_of nodes other)
  child_present is =
      ∥∥₁_elim linked (hlevel props)
      (λ forest. present-previous nodes forest.parent forest.rank forest.is_forest other slot
      (forest.is_forest.child_back slot other is))

  pub next_present : next_of nodes slot ≡ Some other → IsSome (expiry_of nodes other)
  next_present is =
      ∥∥₁_elim linked (hlevel props)
      (λ forest. present-previous nodes forest.parent forest.rank forest.is_forest other slot
      (forest.is_forest.next_back slot other is))

  pub previous_present : previous_of nodes slot ≡ Some other → IsSome (expiry_of nodes other)
  previous_present is =
      ∥∥₁_elim linked (hlevel props)
      (λ forest. present_before nodes forest.parent forest.rank forest.is_forest slot other is)

  pub parent_present : child_of nodes slot ≡ Some other → IsSome (expiry_of nodes slot)
  parent_present is =
      ∥∥₁_elim linked (hlevel props)
      (λ forest. present-child nodes forest.parent forest.rank forest.is_forest slot other is)

  pub left_present : next_of nodes slot ≡ Some other → IsSome (expiry_of nodes slot)
  left_present is =
      ∥∥₁_elim linked (hlevel props)
      (λ forest. present-next nodes forest.parent forest.rank forest.is_forest slot other is)

  -- an entry in no row is under no other
  pub not_child : previous_of nodes other ≡ None → child_of nodes slot ≢ Some other
  not_child alone is =
      ∥∥₁_elim linked (hlevel props) (λ forest. let back = forest.is_forest.child_back slot other is in cc)

  -- neither of two neighbours is under the other
  pub not_under_left : next_of nodes slot ≡ Some other → child_of nodes slot ≢ Some other
  not_under_left is child =
      ∥∥₁_elim linked (hlevel props) (λ forest. forest.is_forest.apart slot other child is)

  pub not_under_right : next_of nodes slot ≡ Some other → child_of nodes other ≢ Some slot
  not_under_right is child =
      ∥∥₁_elim linked (hlevel props)
      (λ forest. let low = forest.is_forest.rises other slot (forest.is_forest.next_back slot other is) in
      let high = forest.is_forest.rises slot other (forest.is_forest.child_back other slot child) in
      absurd (omega arith))

-- once an entry that is not under `above` is passed by, the first under `above` is as before
module _ (old new : List Node) (linked : LieAsTrees old) (slot above : ℕ) (bypasses : Bypasses old new slot)
    (apart : child_of old above ≢ Some slot) where
  pub bypassed_apart : child_of new above ≢ Some slot
  bypassed_apart is = apart (sym (bypasses.child_stays above apart) ∙ is)

  pub bypassed_first : (other : ℕ) → child_of new above ≡ Some other → other < length new
  bypassed_first other is =
      let within = child_within old linked above other (sym (bypasses.child_stays above apart) ∙ is) in
      omega (arith, same_length old new bypasses.expiries)
