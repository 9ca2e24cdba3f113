-- The content of the timer, read from its nodes.
use Rattle.std.proofs.Common.{◌≡◌, ℕ, ◌+◌, ◌<◌, ◌≤◌, ◌≢◌, List, length, get_or, set, Option, Some, None, IsSome, IfSome, is_some, refl, sym, ap, ◌∙◌, subst, arith, ⊎_elim, get_or-set_same, get_or-set_other, length-set}
use Rattle.std.specs.Option.{unwrap_or}
use Rattle.std.proofs.Math.Logic.{∥∥₁_elim}
use Rattle.std.proofs.Props.{props}
use Rattle.std.specs.FinMap as map
use Rattle.std.specs.Prelude.{count_by}
use Rattle.std.proofs.lemmas.List.{length-map}
use Rattle.std.proofs.lemmas.List.Sums.{count_by-le-length}
use Rattle.rb_timer.specs.Content.{IsLeastSlot}
use Rattle.rb_timer.specs.Slots.{content_of, get-content_of, content_empty, content_of-insert, content_of-remove, len-content_of}
use Rattle.rb_pairing.specs.declared.node.Node.{Node}
use Rattle.rb_pairing.specs.Nodes.{expiry_of, previous_of, expiries, moment_of}
use Rattle.rb_pairing.specs.Forest.{IsTop, IsTree}
use Rattle.rb_pairing.specs.Changes.{Melds}
use Rattle.rb_pairing.proofs.Ancestors.{climbs}
use Rattle.rb_pairing.proofs.Entries.{count_added, count_removed}
use Rattle.rb_pairing.proofs.InRoom.{in_room-expiry}
use Rattle.rb_pairing.proofs.Expiries.{get_or-expiries, same_expiry}
use Rattle.rb_pairing.proofs.LinkTests.{cases_link, is_some-unless, none_as}

-- what the content has at a slot
pub get-content : (nodes : List Node) (slot : ℕ)
    → map.get (content_of (expiries nodes)) slot ≡ expiry_of nodes slot
get-content nodes slot = get-content_of (expiries nodes) slot ∙ get_or-expiries nodes slot

some_moment : (nodes : List Node) (slot : ℕ) (expiry : Option ℕ) → expiry_of nodes slot ≡ expiry
    → IsSome expiry → expiry_of nodes slot ≡ Some (moment_of nodes slot)
some_moment nodes slot None is some = absurd (cc)
some_moment nodes slot (Some moment) is some =
    is ∙ ap Some (sym (ap (λ e. unwrap_or {T = ℕ} e 0) is))

-- an entry's expiry is its moment
pub expiry_is : (nodes : List Node) (slot : ℕ) → IsSome (expiry_of nodes slot)
    → expiry_of nodes slot ≡ Some (moment_of nodes slot)
expiry_is nodes slot some = some_moment nodes slot (expiry_of nodes slot) refl some

-- a slot with an entry in the content has one in the nodes
pub present-content : (nodes : List Node) (slot : ℕ)
    → IsSome (map.get (content_of (expiries nodes)) slot) → IsSome (expiry_of nodes slot)
present-content nodes slot present = ap is_some (sym (get-content nodes slot)) ∙ present

module _ (nodes new : List Node) (slot : ℕ) where
  -- an expiry written at a slot is an entry added
  module _ (expiry : ℕ) (within : slot < length nodes) (row : expiries new ≡ set (expiries nodes) slot (Some expiry)) where
    row_within : slot < length (expiries nodes)
    row_within = omega (arith, length-map nodes (λ (node : Node). node.expiry))

    pub content-added : content_of (expiries new) ≡ map.insert (content_of (expiries nodes)) slot expiry
    content-added = ap content_of row ∙ content_of-insert (expiries nodes) slot expiry row_within

    pub expiry_added : expiry_of new slot ≡ Some expiry
    expiry_added =
        sym (get_or-expiries new slot) ∙ ap (λ row. get_or row slot None) row
        ∙ get_or-set_same (expiries nodes) slot (Some expiry) None row_within

    pub count-added : expiry_of nodes slot ≡ None
        → count_by is_some (expiries new) ≡ count_by is_some (expiries nodes) + 1
    count-added free =
        ap (count_by is_some) row
        ∙ count_added (expiries nodes) slot expiry row_within (get_or-expiries nodes slot ∙ free)

  -- no more are counted than there are slots
  pub counted_below : (expiry : ℕ) → expiries new ≡ set (expiries nodes) slot (Some expiry) → count_by is_some (expiries new) ≤ length nodes
  counted_below expiry row =
      omega (
        arith,
        count_by-le-length (is_some {T = ℕ}) (expiries new),
        ap length row,
        length-set (expiries nodes) slot (Some expiry),
        length-map nodes (λ (node : Node). node.expiry),
      )

  -- none written there is an entry taken out
  present_within : IsSome (expiry_of nodes slot) → slot < length (expiries nodes)
  present_within present =
      let within = in_room-expiry nodes slot present in
      omega (arith, length-map nodes (λ (node : Node). node.expiry))

  module _ (present : IsSome (expiry_of nodes slot)) (row : expiries new ≡ set (expiries nodes) slot None) where
    pub content-removed : content_of (expiries new) ≡ map.remove (content_of (expiries nodes)) slot
    content-removed = ap content_of row ∙ content_of-remove (expiries nodes) slot (present_within present)

    -- another entry stays
    pub expiry_kept : (other : ℕ) → other ≢ slot → expiry_of new other ≡ expiry_of nodes other
    expiry_kept other off =
        sym (get_or-expiries new other) ∙ ap (λ row. get_or row other None) row
        ∙ get_or-set_other (expiries nodes) slot other None None off ∙ get_or-expiries nodes other

    pub count-removed : count_by is_some (expiries new) + 1 ≡ count_by is_some (expiries nodes)
    count-removed =
        ap (λ row. count_by is_some row + 1) row
        ∙ count_removed (expiries nodes) slot (moment_of nodes slot) (present_within present)
        (get_or-expiries nodes slot ∙ expiry_is nodes slot present)

  -- there is one entry less where the content has one less
  pub count-less : IsSome (expiry_of nodes slot)
      → content_of (expiries new) ≡ map.remove (content_of (expiries nodes)) slot
      → count_by is_some (expiries new) < count_by is_some (expiries nodes)
  count-less present is =
      let within : slot < length (expiries nodes) = present_within present in
      let same : count_by is_some (expiries new) ≡ count_by is_some (set (expiries nodes) slot None) =
      sym (len-content_of (expiries new)) ∙ ap map.len (is ∙ sym (content_of-remove (expiries nodes) slot within))
      ∙ len-content_of (set (expiries nodes) slot None) in
      omega (
        arith,
        same,
        count_removed (expiries nodes) slot (moment_of nodes slot) within
            (get_or-expiries nodes slot ∙ expiry_is nodes slot present),
      )

module _ (nodes : List Node) (root : Option ℕ) (tree : IsTree nodes root) where
  none_above : root ≡ None → (slot : ℕ) → expiry_of nodes slot ≢ None → ⊥
  none_above empty slot some =
      ∥∥₁_elim tree.linked (hlevel props)
      (λ forest. let up = climbs nodes forest.parent forest.rank forest.is_forest root tree.only slot
      (is_some-unless (expiry_of nodes slot) some) in
      let is_root = up.is_root in absurd (cc))

  none_at : root ≡ None → (slot : ℕ) (expiry : Option ℕ) → expiry_of nodes slot ≡ expiry
      → expiry_of nodes slot ≡ None
  none_at empty slot None is = is
  none_at empty slot (Some moment) is = absurd (none_above empty slot (λ none. cc))

  -- with no root there is no entry
  pub content_empty-no_root : root ≡ None → content_of (expiries nodes) ≡ map.empty
  content_empty-no_root empty =
      content_empty (expiries nodes)
      (λ slot. get_or-expiries nodes slot ∙ none_at empty slot (expiry_of nodes slot) refl)

  root_before : (top slot : ℕ) → root ≡ Some top → IsSome (expiry_of nodes slot)
      → moment_of nodes top ≤ moment_of nodes slot
  root_before top slot is some =
      ∥∥₁_elim tree.linked (hlevel props)
      (λ forest. let up = climbs nodes forest.parent forest.rank forest.is_forest root tree.only slot some in
      let same : up.top ≡ top = let is_root = up.is_root in cc in
      let least = up.least in
      omega (arith, ap (moment_of nodes) same))

  root_least : (top slot : ℕ) (expiry : Option ℕ) → root ≡ Some top → expiry_of nodes slot ≡ expiry
      → IfSome expiry (λ another. moment_of nodes top ≤ another)
  root_least top slot None is here = tt
  root_least top slot (Some moment) is here =
      let least = root_before top slot is (ap is_some here) in
      omega (arith, ap (λ e. unwrap_or {T = ℕ} e 0) here)

  -- the root is an entry of least expiry
  pub root_is_least : (top : ℕ) → root ≡ Some top
      → IsLeastSlot (content_of (expiries nodes)) top (moment_of nodes top)
  root_is_least top is = record {
    present = get-content nodes top ∙ expiry_is nodes top (tree.top top is).present;
    least = λ other. subst (λ at. IfSome at (λ another. moment_of nodes top ≤ another))
        (sym (get-content nodes other)) (root_least top other (expiry_of nodes other) is refl);
  }

-- two trees that were all there were are one
pub melded_tree : (old new : List Node) (one other left : Option ℕ) → Melds old new one other left
    → ((slot : ℕ) → one ≢ Some slot → IsTop old slot → other ≡ Some slot) → IsTree new left
melded_tree old new one other left melds all = record {
  linked = melds.linked;
  top = melds.top;
  only = λ slot top. ⊎_elim (λ is. melds.of_one slot is top.alone)
      (λ off. ⊎_elim (λ is. melds.of_other slot is top.alone)
      (λ off_other. absurd (off_other (all slot off (record {
        present = ap is_some (sym (same_expiry old new melds.expiries slot)) ∙ top.present;
        alone = none_as (previous_of old slot) (previous_of new slot) (sym (melds.tops slot off off_other)) top.alone;
      }))))
      (cases_link other slot))
      (cases_link one slot);
}
