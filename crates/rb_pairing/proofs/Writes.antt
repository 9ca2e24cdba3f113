-- The nodes after one of them is written.
use Rattle.std.proofs.Common.{◌≡◌, ℕ, ◌<◌, ◌≢◌, List, length, set, get_or, Option, Some, None, refl, sym, ap, ◌∙◌, subst, ⊎_elim, get_or-set_same, get_or-set_other}
use Rattle.std.proofs.Math.Seq.{map-set_same}
use Rattle.std.proofs.lemmas.Bool.{cases_eq}
use Rattle.std.proofs.lemmas.List.{get_or_default}
use Rattle.rb_pairing.specs.declared.node.Node.{Node}
use Rattle.rb_pairing.specs.Nodes.{vacant, node_at, expiry_of, child_of, next_of, expiries}
use Rattle.rb_pairing.specs.Changes.{SetsPrevious, SetsLink, SetsPlace, SetsChild, ClearsLinks}

-- what holds at a slot and at each other one holds at each
pub each_slot : (P : ℕ → Type 0) (slot : ℕ) → P slot → ((other : ℕ) → other ≢ slot → P other)
    → (other : ℕ) → P other
each_slot P slot here elsewhere other =
    ⊎_elim (λ same. subst P (sym same) here) (elsewhere other) (cases_eq other slot)

module _ (nodes : List Node) (slot : ℕ) (node : Node) (within : slot < length nodes) where
  pub here : node_at (set nodes slot node) slot ≡ node
  here = get_or-set_same nodes slot node vacant within

  pub elsewhere : (other : ℕ) → other ≢ slot
      → node_at (set nodes slot node) other ≡ node_at nodes other
  elsewhere other off = get_or-set_other nodes slot other node vacant off

  -- what the new node says as the old one did is said as before at each slot
  pub unchanged : (part : Node → Option ℕ) → part node ≡ part (node_at nodes slot) → (other : ℕ)
      → part (node_at (set nodes slot node) other) ≡ part (node_at nodes other)
  unchanged part same =
      each_slot (λ other. part (node_at (set nodes slot node) other) ≡ part (node_at nodes other)) slot
      (ap part here ∙ same) (λ other off. ap part (elsewhere other off))

  pub same_expiries : node.expiry ≡ expiry_of nodes slot
      → expiries (set nodes slot node) ≡ expiries nodes
  same_expiries same = map-set_same (λ (n : Node). n.expiry) nodes slot node vacant same

module _ (nodes : List Node) (slot : ℕ) (within : slot < length nodes) where
  abbrev old : Node
  old = node_at nodes slot

  -- the node that was read there, in the vector that the contract sees as these nodes
  pub read_at : (items : List Node) (read : Node) → items ≡ nodes → read ≡ get_or items slot read → read ≡ node_at nodes slot
  read_at items read view is =
      is ∙ ap (λ ns. get_or ns slot read) view ∙ get_or_default nodes slot read vacant within

  -- and the nodes once it was changed
  pub changed_at : (change : Node → Node) (items : List Node) (read new : Node) → items ≡ nodes → read ≡ get_or items slot read
      → new ≡ change read → set items slot new ≡ set nodes slot (change old)
  changed_at change items read new view is changes =
      ap (λ ns. set ns slot new) view ∙ ap (set nodes slot) (changes ∙ ap change (read_at items read view is))

  abbrev with_previous : Option ℕ → Node
  with_previous previous = record old { previous = previous }

  pub sets_previous : (at previous : Option ℕ) → at ≡ Some slot
      → SetsPrevious nodes (set nodes slot (with_previous previous)) at previous
  sets_previous at previous is =
      let node = with_previous previous in
      record {
        expiries = same_expiries nodes slot node within refl;
        child = unchanged nodes slot node within (λ n. n.child) refl;
        next = unchanged nodes slot node within (λ n. n.next) refl;
        here = λ other same. let one : other ≡ slot = cc in
            ap (λ at. (node_at (set nodes slot node) at).previous) one
            ∙ ap (λ (n : Node). n.previous) (here nodes slot node within);
        elsewhere = λ other off. ap (λ (n : Node). n.previous)
            (elsewhere nodes slot node within other (λ same. off (is ∙ ap Some (sym same))));
      }

  pub sets_child : (child : ℕ)
      → SetsChild nodes (set nodes slot (record old { child = Some child })) slot child
  sets_child child =
      let node : Node = record old { child = Some child } in
      record {
        expiries = same_expiries nodes slot node within refl;
        next = unchanged nodes slot node within (λ n. n.next) refl;
        previous = unchanged nodes slot node within (λ n. n.previous) refl;
        here = ap (λ (n : Node). n.child) (here nodes slot node within);
        elsewhere =
            λ other off. ap (λ (n : Node). n.child) (elsewhere nodes slot node within other off);
      }

  pub sets_place : (before behind : Option ℕ)
      → SetsPlace nodes (set nodes slot (record old { next = behind; previous = before })) slot before behind
  sets_place before behind =
      let node : Node = record old { next = behind; previous = before } in
      record {
        expiries = same_expiries nodes slot node within refl;
        child = unchanged nodes slot node within (λ n. n.child) refl;
        next = ap (λ (n : Node). n.next) (here nodes slot node within);
        next_elsewhere =
            λ other off. ap (λ (n : Node). n.next) (elsewhere nodes slot node within other off);
        previous = ap (λ (n : Node). n.previous) (here nodes slot node within);
        previous_elsewhere =
            λ other off. ap (λ (n : Node). n.previous) (elsewhere nodes slot node within other off);
      }

  pub clears_links :
      ClearsLinks nodes (set nodes slot (record old { child = None; next = None; previous = None })) slot
  clears_links =
      let node : Node = record old { child = None; next = None; previous = None } in
      record {
        expiries = same_expiries nodes slot node within refl;
        none = record {
          child = ap (λ (n : Node). n.child) (here nodes slot node within);
          next = ap (λ (n : Node). n.next) (here nodes slot node within);
          previous = ap (λ (n : Node). n.previous) (here nodes slot node within);
        };
        child = λ other off. ap (λ (n : Node). n.child) (elsewhere nodes slot node within other off);
        next = λ other off. ap (λ (n : Node). n.next) (elsewhere nodes slot node within other off);
        previous = λ other off. ap (λ (n : Node). n.previous) (elsewhere nodes slot node within other off);
      }

  module _ (at : Option ℕ) (from : ℕ) (to : Option ℕ) (is : at ≡ Some slot) where
    one : (other : ℕ) → at ≡ Some other → other ≡ slot
    one other same = cc

    -- the first of the row under it was the one to be replaced
    pub sets_link_child : child_of nodes slot ≡ Some from
        → SetsLink nodes (set nodes slot (record old { child = to })) at from to
    sets_link_child was =
        let node : Node = record old { child = to } in
        let child_here : child_of (set nodes slot node) slot ≡ to =
        ap (λ (n : Node). n.child) (here nodes slot node within) in
        record {
          expiries = same_expiries nodes slot node within refl;
          previous = unchanged nodes slot node within (λ n. n.previous) refl;
          child = λ other same known. ap (child_of (set nodes slot node)) (one other same) ∙ child_here;
          child_stays = λ other not_from. ap (λ (n : Node). n.child)
              (elsewhere nodes slot node within other
              (λ same. not_from (is ∙ ap Some (sym same)) (ap (child_of nodes) same ∙ was)));
          next = λ other same not_from.
              absurd (not_from (ap (child_of nodes) (one other same) ∙ was));
          next_stays = λ other known. unchanged nodes slot node within (λ n. n.next) refl other;
        }

    -- it was not, so it is the next that is replaced
    pub sets_link_next : child_of nodes slot ≢ Some from
        → SetsLink nodes (set nodes slot (record old { next = to })) at from to
    sets_link_next was =
        let node : Node = record old { next = to } in
        let next_here : next_of (set nodes slot node) slot ≡ to =
        ap (λ (n : Node). n.next) (here nodes slot node within) in
        record {
          expiries = same_expiries nodes slot node within refl;
          previous = unchanged nodes slot node within (λ n. n.previous) refl;
          child = λ other same known.
              absurd (was (sym (ap (child_of nodes) (one other same)) ∙ known));
          child_stays = λ other not_from. unchanged nodes slot node within (λ n. n.child) refl other;
          next = λ other same not_from. ap (next_of (set nodes slot node)) (one other same) ∙ next_here;
          next_stays = λ other known. ap (λ (n : Node). n.next)
              (elsewhere nodes slot node within other
              (λ same. was (sym (ap (child_of nodes) same) ∙ known (is ∙ ap Some (sym same)))));
        }
