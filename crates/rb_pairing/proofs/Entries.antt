-- Trees after an entry is written, or taken away, at a slot with no links.
use Rattle.std.proofs.Common.{◌≡◌, ℕ, ◌+◌, ◌<◌, ◌≤◌, ◌≢◌, List, length, set, Option, Some, None, is_some, cond, refl, sym, ap, ◌∙◌, arith, ⊎_elim, get_or, length-set}
use Rattle.std.specs.Prelude.{count_by}
use Rattle.std.specs.Option.{unwrap_or}
use Rattle.std.proofs.lemmas.Bool.{cases_eq}
use Rattle.std.proofs.lemmas.List.{map-set}
use Rattle.std.proofs.lemmas.List.Sums.{sum_by-set}
use Rattle.rb_pairing.specs.declared.node.Node.{Node}
use Rattle.rb_pairing.specs.Nodes.{node_at, expiry_of, child_of, next_of, previous_of, expiries, moment_of}
use Rattle.rb_pairing.specs.Forest.{HasNoLinks, IsForest}
use Rattle.rb_pairing.proofs.Ancestors.{no_row}
use Rattle.rb_pairing.proofs.Writes.{here, elsewhere, unchanged}

module _ (nodes : List Node) (slot : ℕ) (expiry : Option ℕ) (within : slot < length nodes) where
  abbrev pub entry : Node
  entry = record (node_at nodes slot) { expiry = expiry }

  abbrev pub written : List Node
  written = set nodes slot entry

  -- the row of expiries is written there too
  pub expiries-written : expiries written ≡ set (expiries nodes) slot expiry
  expiries-written = map-set (λ (node : Node). node.expiry) nodes slot entry

  pub expiry_here : expiry_of written slot ≡ expiry
  expiry_here = ap (λ (node : Node). node.expiry) (here nodes slot entry within)

  pub expiry_elsewhere : (other : ℕ) → other ≢ slot → expiry_of written other ≡ expiry_of nodes other
  expiry_elsewhere other off =
      ap (λ (node : Node). node.expiry) (elsewhere nodes slot entry within other off)

  pub same_child : (other : ℕ) → child_of written other ≡ child_of nodes other
  same_child = unchanged nodes slot entry within (λ node. node.child) refl

  pub same_next : (other : ℕ) → next_of written other ≡ next_of nodes other
  same_next = unchanged nodes slot entry within (λ node. node.next) refl

  pub same_previous : (other : ℕ) → previous_of written other ≡ previous_of nodes other
  same_previous = unchanged nodes slot entry within (λ node. node.previous) refl

  moment_elsewhere : (other : ℕ) → other ≢ slot → moment_of written other ≡ moment_of nodes other
  moment_elsewhere other off =
      ap (λ expiry. unwrap_or {T = ℕ} expiry 0) (expiry_elsewhere other off)

  module _ (parent rank : ℕ → ℕ) (forest : IsForest nodes parent rank) (free : HasNoLinks nodes slot) where
    none_stays : (other : ℕ) → HasNoLinks nodes other → HasNoLinks written other
    none_stays other none = record {
      child = same_child other ∙ none.child;
      next = same_next other ∙ none.next;
      previous = same_previous other ∙ none.previous;
    }

    vacant : (other : ℕ) → expiry_of written other ≡ None → HasNoLinks written other
    vacant other gone =
        none_stays other
        (⊎_elim (λ same. record {
          child = ap (child_of nodes) same ∙ free.child;
          next = ap (next_of nodes) same ∙ free.next;
          previous = ap (previous_of nodes) same ∙ free.previous;
        })
        (λ off. forest.vacant other (sym (expiry_elsewhere other off) ∙ gone))
        (cases_eq other slot))

    ordered : (other before : ℕ) → previous_of written other ≡ Some before
        → moment_of written (parent other) ≤ moment_of written other
    ordered other before is =
        let back : previous_of nodes other ≡ Some before = sym (same_previous other) ∙ is in
        let off : other ≢ slot = λ same. let none = ap (previous_of nodes) same ∙ free.previous in cc in
        let parent_off = no_row nodes parent rank forest slot free.child other before back in
        let was = forest.ordered other before back in
        omega (arith, moment_elsewhere other off, moment_elsewhere (parent other) parent_off)

    -- the trees are as they were
    pub written_forest : IsForest written parent rank
    written_forest =
        let long : length written ≡ length nodes = length-set nodes slot entry in
        record {
          vacant = vacant;
          child_back = λ other child is. same_previous child ∙ forest.child_back other child (sym (same_child other) ∙ is);
          next_back = λ other next is. same_previous next ∙ forest.next_back other next (sym (same_next other) ∙ is);
          linked = λ other before is no_child. same_next before
              ∙ forest.linked other before (sym (same_previous other) ∙ is)
              (λ child. no_child (same_child before ∙ child));
          apart = λ other child is next.
              forest.apart other child (sym (same_child other) ∙ is) (sym (same_next other) ∙ next);
          alone = λ other none. same_next other ∙ forest.alone other (sym (same_previous other) ∙ none);
          first = λ other child is. forest.first other child (sym (same_child other) ∙ is);
          row = λ other next is. forest.row other next (sym (same_next other) ∙ is);
          ordered = ordered;
          rises = λ other before is. forest.rises other before (sym (same_previous other) ∙ is);
          in_room = λ other low. let was = forest.in_room other (omega arith) in omega arith;
          distinct = λ other another low also same.
              forest.distinct other another (omega arith) (omega arith) same;
        }

-- how many entries there are after one is added
pub count_added : (row : List (Option ℕ)) (slot expiry : ℕ) → slot < length row
    → get_or row slot None ≡ None
    → count_by is_some (set row slot (Some expiry)) ≡ count_by is_some row + 1
count_added row slot expiry within free =
    let counted = rw free at (sum_by-set (λ e. cond (is_some e) 1 0) row slot (Some expiry) None within) in
    omega (arith, counted)

-- and after one is taken out
pub count_removed : (row : List (Option ℕ)) (slot expiry : ℕ) → slot < length row
    → get_or row slot None ≡ Some expiry
    → count_by is_some (set row slot None) + 1 ≡ count_by is_some row
count_removed row slot expiry within was =
    let counted = rw was at (sum_by-set (λ e. cond (is_some e) 1 0) row slot None None within) in
    omega (arith, counted)
