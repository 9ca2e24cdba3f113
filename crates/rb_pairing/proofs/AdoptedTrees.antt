-- Trees after one that stands alone is put under an entry of another.
use Rattle.std.proofs.Common.{◌≡◌, ℕ, ◌+◌, ◌<◌, ◌≤◌, ◌≢◌, List, length, Some, None, IsSome, is_some, cond, eqb, min, max, refl, sym, ap, ◌∙◌, arith, ⊎_elim}
use Rattle.std.proofs.lemmas.Bool.{cases_eq, eq-eqb, ne_eqb}
use Rattle.rb_pairing.specs.declared.node.Node.{Node}
use Rattle.rb_pairing.specs.Nodes.{expiry_of, child_of, next_of, previous_of, moment_of}
use Rattle.rb_pairing.specs.Forest.{HasNoLinks, IsForest, IsTop}
use Rattle.rb_pairing.specs.Changes.{Adopts}
use Rattle.rb_pairing.proofs.Expiries.{same_expiry, same_moment}
use Rattle.rb_pairing.proofs.InRoom.{in_room-expiry, in_room-previous, previous_in_room}
use Rattle.rb_pairing.proofs.LinkTests.{cases_link}
use Rattle.rb_pairing.proofs.Ranks.{IsLifted, apart_from, reranked, rank_above, rank_below, rank_other, slot_cases, reranked_in_room, reranked_distinct, reranked_rises}

-- `slot` may go under `above`: it stands alone, expires no earlier, and what is before `above` is so
-- before `slot` too
pub record MayAdopt (nodes : List Node) (rank : ℕ → ℕ) (above slot : ℕ) : Type 0 where
  pub top : IsTop nodes slot
  pub present : IsSome (expiry_of nodes above)
  pub apart : above ≢ slot
  pub ordered : moment_of nodes above ≤ moment_of nodes slot
  pub under : (other : ℕ) → previous_of nodes above ≡ Some other → rank other < rank slot

module _ (old new : List Node) (above slot : ℕ) (long : length new ≡ length old) (parent rank : ℕ → ℕ)
    (forest : IsForest old parent rank) (may : MayAdopt old rank above slot) (adopts : Adopts old new above slot) where
  abbrev pub new_parent : ℕ → ℕ
  new_parent other = cond (eqb other slot) above (parent other)

  pub above_within : above < length old
  above_within = in_room-expiry old above may.present

  pub slot_within : slot < length old
  slot_within = in_room-expiry old slot may.top.present

  abbrev pub new_rank : ℕ → ℕ
  new_rank = reranked (length old) rank forest.in_room forest.distinct above slot may.apart above_within slot_within

  pub parent_own : new_parent slot ≡ above
  parent_own = ap (λ b. cond b above (parent slot)) (eq-eqb slot slot refl)

  pub parent_stays : (other : ℕ) → other ≢ slot → new_parent other ≡ parent other
  parent_stays other differs = ap (λ b. cond b above (parent other)) (ne_eqb other slot differs)

  no_previous : (other : ℕ) → previous_of old slot ≢ Some other
  no_previous other is = let alone = may.top.alone in cc

  one_previous : (other before another : ℕ) → previous_of old other ≡ Some before
      → previous_of old other ≡ Some another → before ≡ another
  one_previous other before another is also = cc

  -- what has something before it is not the slot
  not_slot : (other before : ℕ) → previous_of old other ≡ Some before → other ≢ slot
  not_slot other before is same = no_previous before (sym (ap (previous_of old) same) ∙ is)

  child_cases : (P : Type 0) (other : ℕ) → (other ≡ above → child_of new other ≡ Some slot → P)
      → (other ≢ above → child_of new other ≡ child_of old other → P) → P
  child_cases P other own stays =
      ⊎_elim (λ same. own same (ap (child_of new) same ∙ adopts.child))
      (λ off. stays off (adopts.child_stays other off))
      (cases_eq other above)

  next_cases : (P : Type 0) (other : ℕ) → (other ≡ slot → next_of new other ≡ child_of old above → P)
      → (other ≢ slot → next_of new other ≡ next_of old other → P) → P
  next_cases P other own stays =
      ⊎_elim (λ same. own same (ap (next_of new) same ∙ adopts.next))
      (λ off. stays off (adopts.next_stays other off))
      (cases_eq other slot)

  previous_cases : (P : Type 0) (other : ℕ) → (other ≡ slot → previous_of new other ≡ Some above → P)
      → (child_of old above ≡ Some other → previous_of new other ≡ Some slot → P)
      → (other ≢ slot → child_of old above ≢ Some other → previous_of new other ≡ previous_of old other → P)
      → P
  previous_cases P other own first stays =
      ⊎_elim (λ same. own same (ap (previous_of new) same ∙ adopts.previous_own))
      (λ off. ⊎_elim (λ is. first is (adopts.previous other is))
      (λ not_first. stays off not_first (adopts.previous_stays other off not_first))
      (cases_link (child_of old above) other))
      (cases_eq other slot)

  vacant : (other : ℕ) → expiry_of new other ≡ None → HasNoLinks new other
  vacant other none =
      let gone : expiry_of old other ≡ None = sym (same_expiry old new adopts.expiries other) ∙ none in
      let was = forest.vacant other gone in
      let not_above : other ≢ above =
      λ same. let some = ap is_some (sym (ap (expiry_of old) same) ∙ gone) in let present = may.present in cc in
      let not_here : other ≢ slot =
      λ same. let some = ap is_some (sym (ap (expiry_of old) same) ∙ gone) in let present = may.top.present in cc in
      record {
        child = adopts.child_stays other not_above ∙ was.child;
        next = adopts.next_stays other not_here ∙ was.next;
        previous = adopts.previous_stays other not_here
            (λ first. let back = forest.child_back above other first in let empty = was.previous in cc)
            ∙ was.previous;
      }

  child_back : (other child : ℕ) → child_of new other ≡ Some child
      → previous_of new child ≡ Some other
  child_back other child is =
      child_cases (previous_of new child ≡ Some other) other
      (λ same own. let one : child ≡ slot = cc in
      ap (previous_of new) one ∙ adopts.previous_own ∙ ap Some (sym same))
      (λ off stays. let was : child_of old other ≡ Some child = sym stays ∙ is in
      let back = forest.child_back other child was in
      adopts.previous_stays child (not_slot child other back)
      (λ first. off (one_previous child other above back (forest.child_back above child first)))
      ∙ back)

  next_back : (other next : ℕ) → next_of new other ≡ Some next → previous_of new next ≡ Some other
  next_back other next is =
      next_cases (previous_of new next ≡ Some other) other
      (λ same own. adopts.previous next (sym own ∙ is) ∙ ap Some (sym same))
      (λ off stays. let was : next_of old other ≡ Some next = sym stays ∙ is in
      let back = forest.next_back other next was in
      adopts.previous_stays next (not_slot next other back)
      (λ first. let same : other ≡ above = one_previous next other above back (forest.child_back above next first) in
      forest.apart above next first (sym (ap (next_of old) same) ∙ was))
      ∙ back)

  linked : (other before : ℕ) → previous_of new other ≡ Some before
      → child_of new before ≢ Some other → next_of new before ≡ Some other
  linked other before is no_child =
      previous_cases (next_of new before ≡ Some other) other
      (λ same own. let one : before ≡ above = cc in
      absurd (no_child (ap (child_of new) one ∙ adopts.child ∙ ap Some (sym same))))
      (λ first own. let one : before ≡ slot = cc in ap (next_of new) one ∙ adopts.next ∙ first)
      (λ off not_first stays. let was : previous_of old other ≡ Some before = sym stays ∙ is in
      let not_child : child_of old before ≢ Some other =
      λ child. child_cases ⊥ before (λ same own. not_first (sym (ap (child_of old) same) ∙ child))
      (λ differs same_child. no_child (same_child ∙ child)) in
      let follows : next_of old before ≡ Some other = forest.linked other before was not_child in
      adopts.next_stays before
      (λ same. let no_next = forest.alone slot may.top.alone in
      let here = sym (ap (next_of old) same) ∙ follows in cc)
      ∙ follows)

  apart : (other child : ℕ) → child_of new other ≡ Some child → next_of new other ≢ Some child
  apart other child is bad =
      child_cases ⊥ other
      (λ same own. let one : child ≡ slot = cc in
      next_cases ⊥ other (λ also behind. may.apart (sym same ∙ also))
      (λ off stays. no_previous other
      (sym (ap (previous_of old) one) ∙ forest.next_back other child (sym stays ∙ bad))))
      (λ off stays. let was : child_of old other ≡ Some child = sym stays ∙ is in
      let back = forest.child_back other child was in
      next_cases ⊥ other
      (λ same behind. off
      (one_previous child other above back (forest.child_back above child (sym behind ∙ bad))))
      (λ differs same_next. forest.apart other child was (sym same_next ∙ bad)))

  alone : (other : ℕ) → previous_of new other ≡ None → next_of new other ≡ None
  alone other none =
      previous_cases (next_of new other ≡ None) other (λ same own. absurd (cc))
      (λ first own. absurd (cc))
      (λ off not_first stays. adopts.next_stays other off ∙ forest.alone other (sym stays ∙ none))

  first : (other child : ℕ) → child_of new other ≡ Some child → new_parent child ≡ other
  first other child is =
      child_cases (new_parent child ≡ other) other
      (λ same own. let one : child ≡ slot = cc in ap new_parent one ∙ parent_own ∙ sym same)
      (λ off stays. let was : child_of old other ≡ Some child = sym stays ∙ is in
      parent_stays child (not_slot child other (forest.child_back other child was))
      ∙ forest.first other child was)

  row : (other next : ℕ) → next_of new other ≡ Some next → new_parent next ≡ new_parent other
  row other next is =
      next_cases (new_parent next ≡ new_parent other) other
      (λ same own. let was : child_of old above ≡ Some next = sym own ∙ is in
      parent_stays next (not_slot next above (forest.child_back above next was))
      ∙ forest.first above next was ∙ sym (ap new_parent same ∙ parent_own))
      (λ off stays. let was : next_of old other ≡ Some next = sym stays ∙ is in
      parent_stays next (not_slot next other (forest.next_back other next was))
      ∙ forest.row other next was ∙ sym (parent_stays other off))

  ordered : (other before : ℕ) → previous_of new other ≡ Some before
      → moment_of new (new_parent other) ≤ moment_of new other
  ordered other before is =
      let same = same_moment old new adopts.expiries in
      let was : moment_of old (new_parent other) ≤ moment_of old other =
      previous_cases (moment_of old (new_parent other) ≤ moment_of old other) other
      (λ here own. let less = may.ordered in
      omega (arith, ap (λ s. moment_of old (new_parent s)) here, ap (moment_of old) parent_own, ap (moment_of old) here))
      (λ is_first own. let back = forest.child_back above other is_first in
      omega (arith, forest.ordered other above back, ap (moment_of old) (parent_stays other (not_slot other above back))))
      (λ off not_first stays. let back : previous_of old other ≡ Some before = sym stays ∙ is in
      omega (arith, forest.ordered other before back, ap (moment_of old) (parent_stays other off))) in
      omega (arith, same other, same (new_parent other))

  rank_cases : (P : Type 0) (other : ℕ)
      → (other ≡ above → new_rank other ≡ min (rank above) (rank slot) → P)
      → (other ≡ slot → new_rank other ≡ min (rank above) (rank slot) + 1 → P)
      → (other ≢ above → other ≢ slot → P) → P
  rank_cases =
      slot_cases (length old) rank forest.in_room forest.distinct above slot may.apart above_within slot_within

  pub rank_of_above : new_rank above ≡ min (rank above) (rank slot)
  rank_of_above =
      rank_above (length old) rank forest.in_room forest.distinct above slot may.apart above_within slot_within

  rank_of_slot : new_rank slot ≡ min (rank above) (rank slot) + 1
  rank_of_slot =
      rank_below (length old) rank forest.in_room forest.distinct above slot may.apart above_within slot_within

  pub rank_of_other : (other : ℕ) → other ≢ above → other ≢ slot
      → IsLifted (min (rank above) (rank slot)) (max (rank above) (rank slot)) (rank other) (new_rank other)
  rank_of_other =
      rank_other (length old) rank forest.in_room forest.distinct above slot may.apart above_within slot_within

  ranks_differ : (other another : ℕ) → other < length old → another < length old → other ≢ another
      → rank other ≢ rank another
  ranks_differ =
      apart_from (length old) rank forest.in_room forest.distinct above slot may.apart above_within slot_within

  rises : (other before : ℕ) → previous_of new other ≡ Some before
      → new_rank before < new_rank other
  rises other before is =
      let apart = ranks_differ above slot above_within slot_within may.apart in
      previous_cases (new_rank before < new_rank other) other
      (λ same own. let one : before ≡ above = cc in
      omega (arith, ap new_rank same, ap new_rank one, rank_of_above, rank_of_slot))
      (λ is_first own. let one : before ≡ slot = cc in
      let back = forest.child_back above other is_first in
      let higher = forest.rises other above back in
      let off_slot = not_slot other above back in
      let off_above : other ≢ above = λ same. let also = ap rank same in absurd (omega arith) in
      let within = in_room-previous old other above back in
      let not_slot_rank = ranks_differ other slot within slot_within off_slot in
      let lifts = rank_of_other other off_above off_slot in
      grind (arith, ap new_rank one, rank_of_slot, lifts.between, lifts.under, lifts.over))
      (λ off not_first stays. let back : previous_of old other ≡ Some before = sym stays ∙ is in
      let higher = forest.rises other before back in
      let within = in_room-previous old other before back in
      let before_within = previous_in_room old parent rank forest other before back in
      rank_cases (new_rank before < new_rank other) other
      (λ same low. let same_rank = ap rank same in
      let less = may.under before (sym (ap (previous_of old) same) ∙ back) in
      let off_above : before ≢ above = λ is_above. let also = ap rank is_above in absurd (omega arith) in
      let off_slot : before ≢ slot = λ is_slot. let also = ap rank is_slot in absurd (omega arith) in
      let lifts = rank_of_other before off_above off_slot in
      grind (arith, low, lifts.between, lifts.under, lifts.over))
      (λ same next. absurd (off same))
      (λ off_above off_slot. rank_cases (new_rank before < new_rank other) before
      (λ same low. let same_rank = ap rank same in
      let lifts = rank_of_other other off_above off_slot in
      grind (arith, low, lifts.between, lifts.under, lifts.over))
      (λ same next. let same_rank = ap rank same in
      let not_above_rank = ranks_differ other above within above_within off_above in
      let lifts = rank_of_other other off_above off_slot in
      grind (arith, next, lifts.between, lifts.under, lifts.over))
      (λ before_off_above before_off_slot.
      reranked_rises (length old) rank forest.in_room forest.distinct above slot may.apart above_within slot_within
      before other before_within within higher before_off_above before_off_slot off_above off_slot)))

  pub adopted_forest : IsForest new new_parent new_rank
  adopted_forest = record {
    vacant = vacant;
    child_back = child_back;
    next_back = next_back;
    linked = linked;
    apart = apart;
    alone = alone;
    first = first;
    row = row;
    ordered = ordered;
    rises = rises;
    in_room = λ other within. let was =
        reranked_in_room (length old) rank forest.in_room forest.distinct above slot may.apart above_within slot_within
        other (omega arith) in omega arith;
    distinct = λ other another within inside same.
        reranked_distinct (length old) rank forest.in_room forest.distinct above slot may.apart above_within slot_within
        other another (omega arith) (omega arith) same;
  }

  -- nothing else enters or leaves a row
  pub adopted_tops : (other : ℕ) → other ≢ slot
      → is_some (previous_of new other) ≡ is_some (previous_of old other)
  adopted_tops other differs =
      previous_cases (is_some (previous_of new other) ≡ is_some (previous_of old other)) other
      (λ same own. absurd (differs same))
      (λ is_first own. ap is_some own ∙ sym (ap is_some (forest.child_back above other is_first)))
      (λ off not_first stays. ap is_some stays)
