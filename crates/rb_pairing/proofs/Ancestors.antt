-- What stands above an entry: the entries before it and its parents, up to the root.
use Rattle.std.proofs.Common.{◌≡◌, ℕ, zero, suc, ◌<◌, ◌≤◌, ◌≢◌, List, Option, Some, None, IsSome, is_some, refl, sym, ap, ◌∙◌, arith, ⊎_elim}
use Rattle.rb_pairing.specs.declared.node.Node.{Node}
use Rattle.rb_pairing.specs.Nodes.{expiry_of, child_of, previous_of, moment_of}
use Rattle.rb_pairing.specs.Forest.{IsForest, IsTop}
use Rattle.rb_pairing.proofs.LinkTests.{cases_link}
use Rattle.rb_pairing.proofs.Neighbours.{in_row-next, present-next, present-child}

-- the root of the entry's tree expires neither later than it nor than its parent
pub record Climbs (nodes : List Node) (parent : ℕ → ℕ) (root : Option ℕ) (slot : ℕ) : Type 0 where
  pub top : ℕ
  pub is_root : root ≡ Some top
  pub least : moment_of nodes top ≤ moment_of nodes slot
  pub least_above : IsSome (previous_of nodes slot)
      → moment_of nodes top ≤ moment_of nodes (parent slot)

module _ (nodes : List Node) (parent rank : ℕ → ℕ) (forest : IsForest nodes parent rank) where
  -- what comes before an entry is an entry
  pub present_before : (slot before : ℕ) → previous_of nodes slot ≡ Some before
      → IsSome (expiry_of nodes before)
  present_before slot before back =
      ⊎_elim (present-child nodes parent rank forest before slot)
      (λ off. present-next nodes parent rank forest before slot (forest.linked slot before back off))
      (cases_link (child_of nodes before) slot)

  module _ (root : Option ℕ) (only : (slot : ℕ) → IsTop nodes slot → root ≡ Some slot) where
    -- an entry in no row is the root
    from_top : (slot : ℕ) → IsSome (expiry_of nodes slot) → previous_of nodes slot ≡ None
        → Climbs nodes parent root slot
    from_top slot present none = record {
      top = slot;
      is_root = only slot (record { present = present; alone = none });
      least = omega arith;
      least_above = λ some. let no = ap is_some none in absurd (cc);
    }

    -- an entry that has one before it climbs as that one does
    from_before : (slot before : ℕ) → previous_of nodes slot ≡ Some before
        → Climbs nodes parent root before → Climbs nodes parent root slot
    from_before slot before back up =
        let ordered = forest.ordered slot before back in
        let above : moment_of nodes up.top ≤ moment_of nodes (parent slot) =
        ⊎_elim
        (λ child. let same = ap (moment_of nodes) (forest.first before slot child) in
        let least = up.least in omega arith)
        (λ off. let next = forest.linked slot before back off in
        let same = ap (moment_of nodes) (forest.row before slot next) in
        let least = up.least_above (in_row-next nodes parent rank forest before slot next) in omega arith)
        (cases_link (child_of nodes before) slot) in
        record {
          top = up.top;
          is_root = up.is_root;
          least = omega arith;
          least_above = λ some. above;
        }

    climbs_within : (fuel slot : ℕ) (link : Option ℕ) → previous_of nodes slot ≡ link → rank slot < fuel
        → IsSome (expiry_of nodes slot) → Climbs nodes parent root slot
    climbs_within zero slot link is low present = absurd (omega arith)
    climbs_within (suc fuel) slot None is low present = from_top slot present is
    climbs_within (suc fuel) slot (Some before) is low present =
        let less = forest.rises slot before is in
        from_before slot before is
        (climbs_within fuel before (previous_of nodes before) refl (omega arith) (present_before slot before is))

    pub climbs : (slot : ℕ) → IsSome (expiry_of nodes slot) → Climbs nodes parent root slot
    climbs slot present =
        climbs_within (suc (rank slot)) slot (previous_of nodes slot) refl (omega arith) present

  module _ (above : ℕ) (childless : child_of nodes above ≡ None) where
    no_row_within : (fuel slot : ℕ) (link : Option ℕ) → previous_of nodes slot ≡ link
        → rank slot < fuel → IsSome link → parent slot ≢ above
    no_row_within zero slot link back low some is = absurd (omega arith)
    no_row_within (suc fuel) slot None back low some is = absurd (cc)
    no_row_within (suc fuel) slot (Some before) back low some is =
        let less = forest.rises slot before back in
        ⊎_elim
        (λ child. let same : before ≡ above = sym (forest.first before slot child) ∙ is in
        let none = ap (child_of nodes) same ∙ childless in absurd (cc))
        (λ off. let next = forest.linked slot before back off in
        no_row_within fuel before (previous_of nodes before) refl (omega arith)
        (in_row-next nodes parent rank forest before slot next)
        (sym (forest.row before slot next) ∙ is))
        (cases_link (child_of nodes before) slot)

    -- what has no child has no row under it
    pub no_row : (slot before : ℕ) → previous_of nodes slot ≡ Some before → parent slot ≢ above
    no_row slot before back =
        no_row_within (suc (rank slot)) slot (Some before) back (omega arith) refl
