-- An entry taken out of its tree, after those under it were joined into one: that one gets its place.
use Rattle.std.proofs.Common.{◌≡◌, ℕ, ◌≢◌, List, Some, None, IsSome, is_some, refl, sym, ap, ◌∙◌}
use Rattle.std.proofs.Math.Logic.{∥∥₁_elim, ∥∥₁_map}
use Rattle.std.proofs.Props.{props}
use Rattle.rb_pairing.specs.declared.node.Node.{Node}
use Rattle.rb_pairing.specs.Nodes.{expiry_of, previous_of}
use Rattle.rb_pairing.specs.Forest.{LieAsTrees}
use Rattle.rb_pairing.specs.Changes.{Cuts, Replaces, JoinsChildren, Unlinks}
use Rattle.rb_pairing.proofs.CutTrees.{cut_tops, linked_after_cut}
use Rattle.rb_pairing.proofs.Expiries.{same_expiry, same_length}
use Rattle.rb_pairing.proofs.Neighbours.{present-previous}
use Rattle.rb_pairing.proofs.ReplacedTrees.{new_parent, new_rank, replaced_forest, replaced_tops}
use Rattle.rb_pairing.proofs.Steps.{not_before_itself}

module _ (old joined new : List Node) (slot : ℕ) where
  -- there are none under it
  pub unlinks_none : JoinsChildren old joined slot None → Cuts joined new slot → Unlinks old new slot None
  unlinks_none joins cuts = record {
    linked = linked_after_cut joined new slot joins.relinks.linked cuts;
    expiries = cuts.expiries ∙ joins.relinks.expiries;
    none = record {
      child = cuts.child_stays slot (λ is. let none = joins.child in cc) ∙ joins.child;
      next = cuts.next_own;
      previous = cuts.previous_own;
    };
    apart = λ is. cc;
    present = λ other is. absurd (cc);
    was_in_row = λ other is. absurd (cc);
    place = λ other is. absurd (cc);
    tops = λ other differs off.
        ∥∥₁_elim joins.relinks.linked (hlevel props)
        (λ forest. cut_tops joined new slot (same_length joined new cuts.expiries) forest.parent forest.rank
        forest.is_forest cuts other differs)
        ∙ joins.relinks.tops other;
  }

  module _ (heir : ℕ) (joins : JoinsChildren old joined slot (Some heir)) (replaces : Replaces joined new slot heir) where
    one : (other : ℕ) → Some heir ≡ Some other → other ≡ heir
    one other is = cc

    back : previous_of joined heir ≡ Some slot
    back =
        ∥∥₁_elim joins.relinks.linked (hlevel props)
        (λ forest. forest.is_forest.child_back slot heir joins.child)

    present : IsSome (expiry_of joined heir)
    present =
        ∥∥₁_elim joins.relinks.linked (hlevel props)
        (λ forest. present-previous joined forest.parent forest.rank forest.is_forest heir slot back)

    linked : LieAsTrees new
    linked =
        let long = same_length joined new replaces.expiries in
        let only = joins.only heir refl in
        ∥∥₁_map joins.relinks.linked
        (λ forest. record {
          parent = new_parent joined new slot heir long forest.parent forest.rank forest.is_forest joins.child only replaces;
          rank = new_rank joined new slot heir long forest.parent forest.rank forest.is_forest joins.child only replaces;
          is_forest =
              replaced_forest joined new slot heir long forest.parent forest.rank forest.is_forest joins.child only replaces;
        })

    tops : (other : ℕ) → other ≢ slot → other ≢ heir
        → is_some (previous_of new other) ≡ is_some (previous_of joined other)
    tops other differs off =
        ∥∥₁_elim joins.relinks.linked (hlevel props)
        (λ forest. replaced_tops joined new slot heir (same_length joined new replaces.expiries) forest.parent
        forest.rank forest.is_forest joins.child (joins.only heir refl) replaces other differs off)

    -- the one that is left gets its place
    pub unlinks_some : Unlinks old new slot (Some heir)
    unlinks_some = record {
      linked = linked;
      expiries = replaces.expiries ∙ joins.relinks.expiries;
      none = replaces.none;
      apart = λ is. ∥∥₁_elim joins.relinks.linked (hlevel props)
          (λ forest. not_before_itself joined forest.parent forest.rank forest.is_forest heir slot back
          (sym (one slot is)));
      present = λ other is. ap (λ s. is_some (expiry_of new s)) (one other is)
          ∙ ap is_some (same_expiry joined new replaces.expiries heir) ∙ present;
      was_in_row = λ other is. ap (λ s. is_some (previous_of old s)) (one other is)
          ∙ sym (joins.relinks.tops heir) ∙ ap is_some back;
      place = λ other is. ap (λ s. is_some (previous_of new s)) (one other is)
          ∙ ap is_some replaces.previous_own ∙ joins.relinks.tops slot;
      tops = λ other differs off. tops other differs (λ same. off (ap Some (sym same)))
          ∙ joins.relinks.tops other;
    }
