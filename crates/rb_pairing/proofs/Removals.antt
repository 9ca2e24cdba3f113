-- The nodes once an entry is taken out of the tree, and its slot is vacated.
use Rattle.std.proofs.Common.{◌≡◌, ℕ, ◌<◌, ◌≢◌, List, length, Option, Some, None, IsSome, is_some, sym, ap, ◌∙◌, ⊎_elim}
use Rattle.std.proofs.Math.Logic.{∥∥₁_map}
use Rattle.rb_pairing.specs.declared.node.Node.{Node}
use Rattle.rb_pairing.specs.Nodes.{expiry_of, previous_of}
use Rattle.rb_pairing.specs.Forest.{LieAsTrees, IsTop, IsTree}
use Rattle.rb_pairing.specs.Changes.{Unlinks}
use Rattle.rb_pairing.proofs.Entries.{written, expiry_here, expiry_elsewhere, same_previous, written_forest}
use Rattle.rb_pairing.proofs.Expiries.{same_expiry}
use Rattle.rb_pairing.proofs.LinkTests.{cases_link, none_as}

module _ (old unlinked : List Node) (slot : ℕ) (root heir : Option ℕ) (tree : IsTree old root)
    (unlinks : Unlinks old unlinked slot heir) (within : slot < length unlinked) where
  abbrev vacated : List Node
  vacated = written unlinked slot None within

  vacated_linked : LieAsTrees vacated
  vacated_linked =
      ∥∥₁_map unlinks.linked
      (λ forest. record {
        parent = forest.parent;
        rank = forest.rank;
        is_forest = written_forest unlinked slot None within forest.parent forest.rank forest.is_forest unlinks.none;
      })

  same_entry : (other : ℕ) → other ≢ slot → expiry_of vacated other ≡ expiry_of old other
  same_entry other off =
      expiry_elsewhere unlinked slot None within other off ∙ same_expiry old unlinked unlinks.expiries other

  -- the slot has no entry
  not_slot : (other : ℕ) → IsTop vacated other → other ≢ slot
  not_slot other top same =
      let gone = ap is_some (ap (expiry_of vacated) same ∙ expiry_here unlinked slot None within) in
      let present = top.present in cc

  not_heir : (other : ℕ) → heir ≡ Some other → other ≢ slot
  not_heir other is same = unlinks.apart (is ∙ ap Some same)

  -- what stood alone does so still, and nothing else but the heir
  same_tops : (other : ℕ) → other ≢ slot → heir ≢ Some other
      → is_some (previous_of vacated other) ≡ is_some (previous_of old other)
  same_tops other off off_heir =
      ap is_some (same_previous unlinked slot None within other) ∙ unlinks.tops other off off_heir

  same_place : (other : ℕ) → heir ≡ Some other
      → is_some (previous_of vacated other) ≡ is_some (previous_of old slot)
  same_place other is =
      ap is_some (same_previous unlinked slot None within other) ∙ unlinks.place other is

  was_top : (other : ℕ) → heir ≢ Some other → IsTop vacated other → IsTop old other
  was_top other off_heir top =
      let off = not_slot other top in
      record {
        present = ap is_some (sym (same_entry other off)) ∙ top.present;
        alone = none_as (previous_of old other) (previous_of vacated other)
            (sym (same_tops other off off_heir)) top.alone;
      }

  -- where the root is taken out the heir is the root
  pub heir_tree : root ≡ Some slot → IsTree vacated heir
  heir_tree is_root = record {
    linked = vacated_linked;
    top = λ other is. record {
      present = ap is_some (expiry_elsewhere unlinked slot None within other (not_heir other is))
          ∙ unlinks.present other is;
      alone = none_as (previous_of vacated other) (previous_of old slot) (same_place other is)
          (tree.top slot is_root).alone;
    };
    only = λ other top. ⊎_elim (λ is. is)
        (λ off_heir. let also = tree.only other (was_top other off_heir top) in
        absurd (not_slot other top (cc)))
        (cases_link heir other);
  }

  -- otherwise the root stays
  pub rest_tree : root ≢ Some slot → IsSome (expiry_of old slot) → IsTree vacated root
  rest_tree not_root entry = record {
    linked = vacated_linked;
    top = λ other is. let top = tree.top other is in
        let off : other ≢ slot = λ same. not_root (is ∙ ap Some same) in
        let off_heir : heir ≢ Some other =
        λ also. let in_row = unlinks.was_in_row other also in let none = ap is_some top.alone in cc in
        record {
          present = ap is_some (same_entry other off) ∙ top.present;
          alone = none_as (previous_of vacated other) (previous_of old other) (same_tops other off off_heir)
              top.alone;
        };
    only = λ other top. ⊎_elim
        (λ is. absurd (not_root (tree.only slot (record {
          present = entry;
          alone = none_as (previous_of old slot) (previous_of vacated other) (sym (same_place other is)) top.alone;
        }))))
        (λ off_heir. tree.only other (was_top other off_heir top))
        (cases_link heir other);
  }
