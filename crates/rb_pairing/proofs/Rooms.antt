-- Nodes with no entries, alone or behind others.
use Rattle.std.proofs.Common.{◌≡◌, ℕ, zero, suc, ◌<◌, ◌≤◌, List, [], ◌∷◌, ◌++◌, length, Option, Some, None, is_some, cond, ltb, refl, sym, ap, ◌∙◌, arith, ⊎_elim, length-append, zero-add}
use Rattle.std.specs.Prelude.{replicate, count_by}
use Rattle.std.proofs.Math.Logic.{∥∥₁_map}
use Rattle.std.specs.Option.{unwrap_or}
use Rattle.std.specs.FinMap as finite
use Rattle.std.proofs.lemmas.Bool.{cases_lt, lt-ltb, le-ltb}
use Rattle.std.proofs.lemmas.List.{map-append}
use Rattle.std.proofs.lemmas.List.Sums.{sum_by-cons, sum_by-append}
use Rattle.rb_timer.specs.Slots.{content_of, content_empty, same_content}
use Rattle.rb_pairing.specs.declared.node.Node.{Node}
use Rattle.rb_pairing.specs.Nodes.{vacant, node_at, expiry_of, child_of, next_of, previous_of, expiries, moment_of}
use Rattle.rb_pairing.specs.Forest.{IsForest, IsTree, IsEntry}
use Rattle.rb_pairing.proofs.Expiries.{get_or-expiries}
use Rattle.rb_pairing.proofs.InRoom.{in_room-previous, previous_in_room}

-- a row of vacant slots is vacant at each slot, and adds nothing behind others
node_at-vacant : (more slot : ℕ) → node_at (replicate more vacant) slot ≡ vacant
node_at-vacant zero slot = refl
node_at-vacant (suc more) zero = refl
node_at-vacant (suc more) (suc slot) = node_at-vacant more slot

node_at-more : (nodes : List Node) (more slot : ℕ)
    → node_at (nodes ++ replicate more vacant) slot ≡ node_at nodes slot
node_at-more [] more slot = node_at-vacant more slot
node_at-more (node ∷ nodes) more zero = refl
node_at-more (node ∷ nodes) more (suc slot) = node_at-more nodes more slot

pub count-vacant : (more : ℕ) → count_by is_some (expiries (replicate more vacant)) ≡ 0
count-vacant zero = refl
count-vacant (suc more) =
    sum_by-cons (λ e. cond (is_some e) 1 0) None (expiries (replicate more vacant))
    ∙ zero-add (count_by is_some (expiries (replicate more vacant))) ∙ count-vacant more

pub count-more : (nodes : List Node) (more : ℕ)
    → count_by is_some (expiries (nodes ++ replicate more vacant)) ≡ count_by is_some (expiries nodes)
count-more nodes more =
    ap (count_by is_some) (map-append (λ (node : Node). node.expiry) nodes (replicate more vacant))
    ∙ sum_by-append (λ e. cond (is_some e) 1 0) (expiries nodes) (expiries (replicate more vacant))
    ∙ omega (arith, count-vacant more)

module _ (old new : List Node) (longer : length old ≤ length new)
    (same : (slot : ℕ) → node_at new slot ≡ node_at old slot) where
  same_expiry : (slot : ℕ) → expiry_of new slot ≡ expiry_of old slot
  same_expiry slot = ap (λ (node : Node). node.expiry) (same slot)

  same_child : (slot : ℕ) → child_of new slot ≡ child_of old slot
  same_child slot = ap (λ (node : Node). node.child) (same slot)

  same_next : (slot : ℕ) → next_of new slot ≡ next_of old slot
  same_next slot = ap (λ (node : Node). node.next) (same slot)

  same_previous : (slot : ℕ) → previous_of new slot ≡ previous_of old slot
  same_previous slot = ap (λ (node : Node). node.previous) (same slot)

  same_moment : (slot : ℕ) → moment_of new slot ≡ moment_of old slot
  same_moment slot = ap (λ expiry. unwrap_or {T = ℕ} expiry 0) (same_expiry slot)

  module _ (parent rank : ℕ → ℕ) (forest : IsForest old parent rank) where
    -- slots of the old room keep their ranks, and the new ones have their own number
    abbrev wider : ℕ → ℕ
    wider slot = cond (ltb slot (length old)) (rank slot) slot

    wider_old : (slot : ℕ) → slot < length old → wider slot ≡ rank slot
    wider_old slot low = ap (λ b. cond b (rank slot) slot) (lt-ltb slot (length old) low)

    wider_new : (slot : ℕ) → length old ≤ slot → wider slot ≡ slot
    wider_new slot high = ap (λ b. cond b (rank slot) slot) (le-ltb slot (length old) high)

    rises : (slot before : ℕ) → previous_of new slot ≡ Some before → wider before < wider slot
    rises slot before is =
        let back : previous_of old slot ≡ Some before = sym (same_previous slot) ∙ is in
        let less = forest.rises slot before back in
        omega (
          arith,
          wider_old slot (in_room-previous old slot before back),
          wider_old before (previous_in_room old parent rank forest slot before back),
        )

    in_room : (slot : ℕ) → slot < length new → wider slot < length new
    in_room slot low =
        ⊎_elim (λ within. let was = forest.in_room slot within in omega (arith, wider_old slot within))
        (λ past. omega (arith, wider_new slot past))
        (cases_lt slot (length old))

    distinct : (slot other : ℕ) → slot < length new → other < length new → wider slot ≡ wider other
        → slot ≡ other
    distinct slot other low also equal =
        ⊎_elim
        (λ within. let was = forest.in_room slot within in
        ⊎_elim
        (λ other_within. forest.distinct slot other within other_within
        (sym (wider_old slot within) ∙ equal ∙ wider_old other other_within))
        (λ other_past. absurd (omega (arith, wider_old slot within, wider_new other other_past)))
        (cases_lt other (length old)))
        (λ past. ⊎_elim
        (λ other_within. let was = forest.in_room other other_within in
        absurd (omega (arith, wider_new slot past, wider_old other other_within)))
        (λ other_past. sym (wider_new slot past) ∙ equal ∙ wider_new other other_past)
        (cases_lt other (length old)))
        (cases_lt slot (length old))

    pub wider_forest : IsForest new parent wider
    wider_forest = record {
      vacant = λ slot gone. let none = forest.vacant slot (sym (same_expiry slot) ∙ gone) in record {
        child = same_child slot ∙ none.child;
        next = same_next slot ∙ none.next;
        previous = same_previous slot ∙ none.previous;
      };
      child_back = λ slot child is. same_previous child ∙ forest.child_back slot child (sym (same_child slot) ∙ is);
      next_back = λ slot next is. same_previous next ∙ forest.next_back slot next (sym (same_next slot) ∙ is);
      linked = λ slot before is no_child. same_next before
          ∙ forest.linked slot before (sym (same_previous slot) ∙ is) (λ child. no_child (same_child before ∙ child));
      apart = λ slot child is next.
          forest.apart slot child (sym (same_child slot) ∙ is) (sym (same_next slot) ∙ next);
      alone = λ slot none. same_next slot ∙ forest.alone slot (sym (same_previous slot) ∙ none);
      first = λ slot child is. forest.first slot child (sym (same_child slot) ∙ is);
      row = λ slot next is. forest.row slot next (sym (same_next slot) ∙ is);
      ordered = λ slot before is.
          omega (
            arith,
            forest.ordered slot before (sym (same_previous slot) ∙ is),
            same_moment slot,
            same_moment (parent slot),
          );
      rises = rises;
      in_room = in_room;
      distinct = distinct;
    }

  -- a tree in a smaller room is one in the larger
  pub wider_tree : (root : Option ℕ) → IsTree old root → IsTree new root
  wider_tree root tree = record {
    linked = ∥∥₁_map tree.linked
        (λ forest. record {
          parent = forest.parent;
          rank = wider forest.parent forest.rank forest.is_forest;
          is_forest = wider_forest forest.parent forest.rank forest.is_forest;
        });
    top = λ slot is. let top = tree.top slot is in record {
      present = ap is_some (same_expiry slot) ∙ top.present;
      alone = same_previous slot ∙ top.alone;
    };
    only = λ slot top. tree.only slot (record {
      present = ap is_some (sym (same_expiry slot)) ∙ top.present;
      alone = sym (same_previous slot) ∙ top.alone;
    });
  }

-- no slots, and no entries
no_forest : IsForest [] (λ slot. slot) (λ slot. slot)
no_forest = record {
  vacant = λ slot none. record { child = refl; next = refl; previous = refl };
  child_back = λ slot child is. absurd (cc);
  next_back = λ slot next is. absurd (cc);
  linked = λ slot before is no_child. absurd (cc);
  apart = λ slot child is next. cc;
  alone = λ slot none. refl;
  first = λ slot child is. absurd (cc);
  row = λ slot next is. absurd (cc);
  ordered = λ slot before is. absurd (cc);
  rises = λ slot before is. absurd (cc);
  in_room = λ slot low. low;
  distinct = λ slot other low also same. same;
}

pub no_tree : IsTree [] None
no_tree = record {
  linked = ∣ record { parent = λ slot. slot; rank = λ slot. slot; is_forest = no_forest } ∣₁;
  top = λ slot is. absurd (cc);
  only = λ slot top. let present = top.present in absurd (cc);
}

-- vacant slots alone
pub vacant_tree : (more : ℕ) → IsTree (replicate more vacant) None
vacant_tree more =
    wider_tree [] (replicate more vacant) (omega arith) (node_at-vacant more) None no_tree

-- vacant slots behind others
pub more_tree : (nodes : List Node) (more : ℕ) (root : Option ℕ) → IsTree nodes root
    → IsTree (nodes ++ replicate more vacant) root
more_tree nodes more root tree =
    wider_tree nodes (nodes ++ replicate more vacant)
    (omega (arith, length-append nodes (replicate more vacant))) (node_at-more nodes more) root tree

-- an entry stands among them
pub more_entry : (nodes : List Node) (more : ℕ) (at : Option ℕ) → IsEntry nodes at → IsEntry (nodes ++ replicate more vacant) at
more_entry nodes more at entry =
    λ slot found. ap (λ (node : Node). is_some node.expiry) (node_at-more nodes more slot) ∙ entry slot found

pub content-vacant : (more : ℕ) → content_of (expiries (replicate more vacant)) ≡ finite.empty
content-vacant more =
    content_empty (expiries (replicate more vacant))
    (λ slot. get_or-expiries (replicate more vacant) slot
    ∙ ap (λ (node : Node). node.expiry) (node_at-vacant more slot))

pub content-more : (nodes : List Node) (more : ℕ)
    → content_of (expiries (nodes ++ replicate more vacant)) ≡ content_of (expiries nodes)
content-more nodes more =
    same_content (expiries (nodes ++ replicate more vacant)) (expiries nodes)
    (λ slot. get_or-expiries (nodes ++ replicate more vacant) slot
    ∙ ap (λ (node : Node). node.expiry) (node_at-more nodes more slot)
    ∙ sym (get_or-expiries nodes slot))
