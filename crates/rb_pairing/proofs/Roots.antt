-- Two trees made one.
use Rattle.std.proofs.Common.{◌≡◌, ℕ, ◌≤◌, ◌≢◌, List, length, Some, None, is_some, refl, sym, ap, ◌∙◌, subst}
use Rattle.std.proofs.Math.Logic.{∥∥₁_elim, ∥∥₁_map}
use Rattle.std.proofs.Props.{props}
use Rattle.rb_pairing.specs.declared.node.Node.{Node}
use Rattle.rb_pairing.specs.Nodes.{previous_of, moment_of}
use Rattle.rb_pairing.specs.Forest.{LieAsTrees, IsTop}
use Rattle.rb_pairing.specs.Changes.{Adopts, Melds}
use Rattle.rb_pairing.proofs.Expiries.{same_expiry, same_length}
use Rattle.rb_pairing.proofs.Steps.{not_before_itself}
use Rattle.rb_pairing.proofs.AdoptedTrees.{MayAdopt, new_parent, new_rank, adopted_forest, adopted_tops}

module _ (old new : List Node) (above slot : ℕ) (linked : LieAsTrees old) (top_above : IsTop old above)
    (top_slot : IsTop old slot) (apart : above ≢ slot) (ordered : moment_of old above ≤ moment_of old slot)
    (adopts : Adopts old new above slot) where
  long : length new ≡ length old
  long = same_length old new adopts.expiries

  may : (rank : ℕ → ℕ) → MayAdopt old rank above slot
  may rank = record {
    top = top_slot;
    present = top_above.present;
    apart = apart;
    ordered = ordered;
    under = λ other is. let none = top_above.alone in absurd (cc);
  }

  after : LieAsTrees new
  after =
      ∥∥₁_map linked
      (λ forest. record {
        parent = new_parent old new above slot long forest.parent forest.rank forest.is_forest (may forest.rank) adopts;
        rank = new_rank old new above slot long forest.parent forest.rank forest.is_forest (may forest.rank) adopts;
        is_forest =
            adopted_forest old new above slot long forest.parent forest.rank forest.is_forest (may forest.rank) adopts;
      })

  tops : (other : ℕ) → other ≢ slot
      → is_some (previous_of new other) ≡ is_some (previous_of old other)
  tops other differs =
      ∥∥₁_elim linked (hlevel props)
      (λ forest. adopted_tops old new above slot long forest.parent forest.rank forest.is_forest (may forest.rank) adopts
      other differs)

  alone : previous_of new above ≡ None
  alone =
      ∥∥₁_elim linked (hlevel props)
      (λ forest. adopts.previous_stays above apart
      (λ is. not_before_itself old forest.parent forest.rank forest.is_forest above above
      (forest.is_forest.child_back above above is) refl))
      ∙ top_above.alone

  top : IsTop new above
  top = record {
    present = ap is_some (same_expiry old new adopts.expiries above) ∙ top_above.present;
    alone = alone;
  }

  under : (other : ℕ) → other ≡ slot → previous_of new other ≢ None
  under other is none = let own = ap (previous_of new) is ∙ adopts.previous_own in cc

  -- the other stays on top
  pub melds_other : Melds old new (Some slot) (Some above) (Some above)
  melds_other = record {
    linked = after;
    expiries = adopts.expiries;
    top = λ other is. let same : above ≡ other = cc in subst (IsTop new) same top;
    of_one = λ other is none. absurd (under other (cc) none);
    of_other = λ other is none. is;
    tops = λ other off_one off_other. tops other (λ is. off_one (ap Some (sym is)));
  }

  -- the one stays on top
  pub melds_one : Melds old new (Some above) (Some slot) (Some above)
  melds_one = record {
    linked = after;
    expiries = adopts.expiries;
    top = λ other is. let same : above ≡ other = cc in subst (IsTop new) same top;
    of_one = λ other is none. is;
    of_other = λ other is none. absurd (under other (cc) none);
    tops = λ other off_one off_other. tops other (λ is. off_other (ap Some (sym is)));
  }
