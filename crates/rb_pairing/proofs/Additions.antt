-- The nodes once an entry is written at a free slot, before it is hung into the tree.
use Rattle.std.proofs.Common.{◌≡◌, ℕ, ◌<◌, ◌≤◌, ◌≢◌, List, length, Option, Some, None, IsSome, is_some, refl, sym, ap, ◌∙◌, ⊎_elim}
use Rattle.std.proofs.Math.Logic.{∥∥₁_elim, ∥∥₁_map}
use Rattle.std.proofs.Props.{props}
use Rattle.std.proofs.lemmas.Bool.{cases_eq}
use Rattle.rb_pairing.specs.declared.node.Node.{Node}
use Rattle.rb_pairing.specs.Nodes.{expiry_of, previous_of, moment_of}
use Rattle.rb_pairing.specs.Forest.{HasNoLinks, LieAsTrees, IsTop, IsTree}
use Rattle.rb_pairing.specs.Changes.{Adopts}
use Rattle.rb_pairing.proofs.Contents.{melded_tree}
use Rattle.rb_pairing.proofs.Entries.{written, expiry_here, expiry_elsewhere, same_child, same_next, same_previous, written_forest}
use Rattle.rb_pairing.proofs.Leaves.{melds_leaf}

module _ (nodes : List Node) (slot expiry : ℕ) (root : Option ℕ) (tree : IsTree nodes root)
    (within : slot < length nodes) (absent : expiry_of nodes slot ≡ None) where
  abbrev added : List Node
  added = written nodes slot (Some expiry) within

  pub free : HasNoLinks nodes slot
  free = ∥∥₁_elim tree.linked (hlevel props) (λ forest. forest.is_forest.vacant slot absent)

  pub added_linked : LieAsTrees added
  added_linked =
      ∥∥₁_map tree.linked
      (λ forest. record {
        parent = forest.parent;
        rank = forest.rank;
        is_forest = written_forest nodes slot (Some expiry) within forest.parent forest.rank forest.is_forest free;
      })

  -- the slot is not the root
  pub root_apart : (other : ℕ) → root ≡ Some other → other ≢ slot
  root_apart other is same =
      let present = (tree.top other is).present in
      let none = ap is_some (ap (expiry_of nodes) same ∙ absent) in cc

  pub root_top : (other : ℕ) → root ≡ Some other → IsTop added other
  root_top other is =
      let top = tree.top other is in
      record {
        present = ap is_some (expiry_elsewhere nodes slot (Some expiry) within other (root_apart other is))
            ∙ top.present;
        alone = same_previous nodes slot (Some expiry) within other ∙ top.alone;
      }

  pub slot_top : (other : ℕ) → Some slot ≡ Some other → IsTop added other
  slot_top other is =
      let same : other ≡ slot = cc in
      record {
        present = ap (λ s. is_some (expiry_of added s)) same
            ∙ ap is_some (expiry_here nodes slot (Some expiry) within);
        alone = same_previous nodes slot (Some expiry) within other
            ∙ ap (previous_of nodes) same ∙ free.previous;
      }

  -- nothing else is in no row
  pub none_else : (other : ℕ) → root ≢ Some other → IsTop added other → Some slot ≡ Some other
  none_else other off top =
      ⊎_elim (λ same. ap Some (sym same))
      (λ differs. absurd (off (tree.only other (record {
        present = ap is_some (sym (expiry_elsewhere nodes slot (Some expiry) within other differs)) ∙ top.present;
        alone = sym (same_previous nodes slot (Some expiry) within other) ∙ top.alone;
      }))))
      (cases_eq other slot)

  added_free : HasNoLinks added slot
  added_free = record {
    child = same_child nodes slot (Some expiry) within slot ∙ free.child;
    next = same_next nodes slot (Some expiry) within slot ∙ free.next;
    previous = same_previous nodes slot (Some expiry) within slot ∙ free.previous;
  }

  module _ (above : ℕ) (entry : IsSome (expiry_of nodes above)) where
    above_apart : above ≢ slot
    above_apart same = let none = ap is_some (ap (expiry_of nodes) same ∙ absent) in cc

    pub above_present : IsSome (expiry_of added above)
    above_present = ap is_some (expiry_elsewhere nodes slot (Some expiry) within above above_apart) ∙ entry

    -- under another entry it is one of the tree, whose root stays
    pub hung_tree : (new : List Node) → moment_of added above ≤ moment_of added slot
        → Adopts added new above slot → IsTree new root
    hung_tree new ordered adopts =
        melded_tree added new root (Some slot) root
        (melds_leaf added new above slot added_linked above_present (slot_top slot refl).present added_free above_apart
        ordered adopts root root_top root_apart)
        none_else
