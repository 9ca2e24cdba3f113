-- Trees after an entry left its place to the only one under it.
use Rattle.std.proofs.Common.{◌≡◌, ℕ, ◌<◌, ◌≤◌, ◌≢◌, List, length, Some, None, is_some, cond, eqb, refl, sym, ap, ◌∙◌, arith, ⊎_elim}
use Rattle.std.proofs.lemmas.Bool.{cases_eq, eq-eqb, ne_eqb}
use Rattle.rb_pairing.specs.declared.node.Node.{Node}
use Rattle.rb_pairing.specs.Nodes.{expiry_of, child_of, next_of, previous_of, moment_of}
use Rattle.rb_pairing.specs.Forest.{HasNoLinks, IsForest}
use Rattle.rb_pairing.specs.Changes.{Replaces}
use Rattle.rb_pairing.proofs.Expiries.{same_expiry, same_moment}
use Rattle.rb_pairing.proofs.InRoom.{in_room-child, child_in_room}
use Rattle.rb_pairing.proofs.LinkTests.{cases_link}

module _ (old new : List Node) (slot by : ℕ) (long : length new ≡ length old) (parent rank : ℕ → ℕ)
    (forest : IsForest old parent rank) (child_is : child_of old slot ≡ Some by) (only : next_of old by ≡ None)
    (replaces : Replaces old new slot by) where
  abbrev pub new_parent : ℕ → ℕ
  new_parent other = cond (eqb other by) (parent slot) (parent other)

  -- the two exchange their ranks
  abbrev pub new_rank : ℕ → ℕ
  new_rank other = cond (eqb other slot) (rank by) (cond (eqb other by) (rank slot) (rank other))

  parent_own : new_parent by ≡ parent slot
  parent_own = ap (λ b. cond b (parent slot) (parent by)) (eq-eqb by by refl)

  parent_stays : (other : ℕ) → other ≢ by → new_parent other ≡ parent other
  parent_stays other differs = ap (λ b. cond b (parent slot) (parent other)) (ne_eqb other by differs)

  by_back : previous_of old by ≡ Some slot
  by_back = forest.child_back slot by child_is

  less : rank slot < rank by
  less = forest.rises by slot by_back

  by_off : by ≢ slot
  by_off same = let low = less in absurd (omega (arith, ap rank same))

  rank_of_slot : new_rank slot ≡ rank by
  rank_of_slot = ap (λ b. cond b (rank by) (cond (eqb slot by) (rank slot) (rank slot))) (eq-eqb slot slot refl)

  rank_of_by : new_rank by ≡ rank slot
  rank_of_by =
      ap (λ b. cond b (rank by) (cond (eqb by by) (rank slot) (rank by))) (ne_eqb by slot by_off)
      ∙ ap (λ b. cond b (rank slot) (rank by)) (eq-eqb by by refl)

  rank_of_other : (other : ℕ) → other ≢ slot → other ≢ by → new_rank other ≡ rank other
  rank_of_other other off off_by =
      ap (λ b. cond b (rank by) (cond (eqb other by) (rank slot) (rank other))) (ne_eqb other slot off)
      ∙ ap (λ b. cond b (rank slot) (rank other)) (ne_eqb other by off_by)

  one_previous : (other before another : ℕ) → previous_of old other ≡ Some before
      → previous_of old other ≡ Some another → before ≡ another
  one_previous other before another is also = cc

  -- what has before it another than the slot is not the one under the slot
  not_by : (other before : ℕ) → previous_of old other ≡ Some before → before ≢ slot → other ≢ by
  not_by other before is off same = off (one_previous by before slot (sym (ap (previous_of old) same) ∙ is) by_back)

  -- the slot's next is not its child
  behind_off : (other : ℕ) → next_of old slot ≡ Some other → other ≢ by
  behind_off other is same = forest.apart slot by child_is (is ∙ ap Some same)

  -- nor is the slot behind its child
  no_round : (other : ℕ) → next_of old other ≡ Some slot → other ≢ by
  no_round other is same = let none = ap (next_of old) same ∙ only in cc

  -- what was linked to the slot is linked to the one under it
  child_cases : (P : Type 0) (other : ℕ) → (other ≡ slot → child_of new other ≡ None → P)
      → (child_of old other ≡ Some slot → child_of new other ≡ Some by → P)
      → (other ≢ slot → child_of old other ≢ Some slot → child_of new other ≡ child_of old other → P) → P
  child_cases P other own over stays =
      ⊎_elim (λ same. own same (ap (child_of new) same ∙ replaces.none.child))
      (λ differs. ⊎_elim (λ is. over is (replaces.child other is))
      (λ off. stays differs off (replaces.child_stays other differs off))
      (cases_link (child_of old other) slot))
      (cases_eq other slot)

  next_cases : (P : Type 0) (other : ℕ) → (next_of new other ≡ None → other ≡ slot → P)
      → (other ≡ by → next_of new other ≡ next_of old slot → P)
      → (next_of old other ≡ Some slot → next_of new other ≡ Some by → P)
      → (other ≢ slot → other ≢ by → next_of new other ≡ next_of old other → P) → P
  next_cases P other own moved over stays =
      ⊎_elim (λ same. own (ap (next_of new) same ∙ replaces.none.next) same)
      (λ differs. ⊎_elim (λ same. moved same (ap (next_of new) same ∙ replaces.next_own))
      (λ off_by. ⊎_elim (λ is. over is (replaces.next other is))
      (λ off. stays differs off_by (replaces.next_stays other differs off_by off))
      (cases_link (next_of old other) slot))
      (cases_eq other by))
      (cases_eq other slot)

  previous_cases : (P : Type 0) (other : ℕ) → (previous_of new other ≡ None → other ≡ slot → P)
      → (other ≡ by → previous_of new other ≡ previous_of old slot → P)
      → (next_of old slot ≡ Some other → previous_of new other ≡ Some by → P)
      → (other ≢ slot → other ≢ by → next_of old slot ≢ Some other
      → previous_of new other ≡ previous_of old other → P) → P
  previous_cases P other own moved behind stays =
      ⊎_elim (λ same. own (ap (previous_of new) same ∙ replaces.none.previous) same)
      (λ differs. ⊎_elim (λ same. moved same (ap (previous_of new) same ∙ replaces.previous_own))
      (λ off_by. ⊎_elim (λ is. behind is (replaces.previous other is))
      (λ off. stays differs off_by off (replaces.previous_stays other differs off_by off))
      (cases_link (next_of old slot) other))
      (cases_eq other by))
      (cases_eq other slot)

  -- an entry other than these two has no link to the slot behind it
  before_off : (other before : ℕ) → previous_of old other ≡ Some before → other ≢ by
      → next_of old slot ≢ Some other → before ≢ slot
  before_off other before is off_by not_behind same =
      let back : previous_of old other ≡ Some slot = is ∙ ap Some same in
      not_behind (forest.linked other slot back (λ child. off_by (cc)))

  vacant : (other : ℕ) → expiry_of new other ≡ None → HasNoLinks new other
  vacant other none =
      let was = forest.vacant other (sym (same_expiry old new replaces.expiries other) ∙ none) in
      let no_child = was.child in
      let no_next = was.next in
      let no_previous = was.previous in
      let off_by : other ≢ by =
      λ same. let back = sym (ap (previous_of old) same) ∙ no_previous in let is = by_back in cc in
      record {
        child = child_cases (child_of new other ≡ None) other (λ same own. own)
            (λ is over. absurd (cc)) (λ differs off stays. stays ∙ no_child);
        next = next_cases (next_of new other ≡ None) other (λ own same. own)
            (λ same moved. absurd (off_by same)) (λ is over. absurd (cc))
            (λ differs off stays. stays ∙ no_next);
        previous = previous_cases (previous_of new other ≡ None) other (λ own same. own)
            (λ same moved. absurd (off_by same))
            (λ is behind. let back = forest.next_back slot other is in absurd (cc))
            (λ differs off not_behind stays. stays ∙ no_previous);
      }

  child_back : (other child : ℕ) → child_of new other ≡ Some child → previous_of new child ≡ Some other
  child_back other child is =
      child_cases (previous_of new child ≡ Some other) other (λ same own. absurd (cc))
      (λ to_slot over. let one : child ≡ by = cc in
      ap (previous_of new) one ∙ replaces.previous_own ∙ forest.child_back other slot to_slot)
      (λ differs off stays. let was : child_of old other ≡ Some child = sym stays ∙ is in
      let back = forest.child_back other child was in
      replaces.previous_stays child (λ same. off (was ∙ ap Some same)) (not_by child other back differs)
      (λ behind. differs (one_previous child other slot back (forest.next_back slot child behind)))
      ∙ back)

  next_back : (other next : ℕ) → next_of new other ≡ Some next → previous_of new next ≡ Some other
  next_back other next is =
      next_cases (previous_of new next ≡ Some other) other (λ own same. absurd (cc))
      (λ same moved. replaces.previous next (sym moved ∙ is) ∙ ap Some (sym same))
      (λ to_slot over. let one : next ≡ by = cc in
      ap (previous_of new) one ∙ replaces.previous_own ∙ forest.next_back other slot to_slot)
      (λ differs off_by stays. let was : next_of old other ≡ Some next = sym stays ∙ is in
      let back = forest.next_back other next was in
      replaces.previous_stays next
      (λ same. let to_slot = replaces.next other (was ∙ ap Some same) in
      let still = sym is ∙ to_slot in by_off (cc))
      (not_by next other back differs)
      (λ behind. differs (one_previous next other slot back (forest.next_back slot next behind)))
      ∙ back)

  linked : (other before : ℕ) → previous_of new other ≡ Some before
      → child_of new before ≢ Some other → next_of new before ≡ Some other
  linked other before is no_child =
      previous_cases (next_of new before ≡ Some other) other (λ own same. absurd (cc))
      (λ same moved. let was : previous_of old slot ≡ Some before = sym moved ∙ is in
      let not_first : child_of old before ≢ Some slot =
      λ first. no_child (replaces.child before first ∙ ap Some (sym same)) in
      replaces.next before (forest.linked slot before was not_first) ∙ ap Some (sym same))
      (λ behind over. let one : before ≡ by = cc in ap (next_of new) one ∙ replaces.next_own ∙ behind)
      (λ differs off_by not_behind stays. let was : previous_of old other ≡ Some before = sym stays ∙ is in
      let off = before_off other before was off_by not_behind in
      let not_first : child_of old before ≢ Some other =
      λ first. no_child (replaces.child_stays before off (λ to_slot. differs (cc)) ∙ first) in
      let follows : next_of old before ≡ Some other = forest.linked other before was not_first in
      replaces.next_stays before off (λ same. let none = ap (next_of old) same ∙ only in cc)
      (λ to_slot. differs (cc))
      ∙ follows)

  apart : (other child : ℕ) → child_of new other ≡ Some child → next_of new other ≢ Some child
  apart other child is bad =
      child_cases ⊥ other (λ same own. cc)
      (λ to_slot over. let one : child ≡ by = cc in
      next_cases ⊥ other (λ own same. cc)
      (λ same moved. behind_off child (sym moved ∙ bad) one)
      (λ next_slot past. forest.apart other slot to_slot next_slot)
      (λ differs off_by stays.
      not_by child other (forest.next_back other child (sym stays ∙ bad)) differs one))
      (λ differs off stays. let was : child_of old other ≡ Some child = sym stays ∙ is in
      let back = forest.child_back other child was in
      next_cases ⊥ other (λ own same. cc)
      (λ same moved.
      differs (one_previous child other slot back (forest.next_back slot child (sym moved ∙ bad))))
      (λ next_slot past. not_by child other back differs (cc))
      (λ also off_by same_next. forest.apart other child was (sym same_next ∙ bad)))

  alone : (other : ℕ) → previous_of new other ≡ None → next_of new other ≡ None
  alone other none =
      previous_cases (next_of new other ≡ None) other
      (λ own same. ap (next_of new) same ∙ replaces.none.next)
      (λ same moved. ap (next_of new) same ∙ replaces.next_own ∙ forest.alone slot (sym moved ∙ none))
      (λ behind over. absurd (cc))
      (λ differs off_by not_behind stays. let no_next = forest.alone other (sym stays ∙ none) in
      replaces.next_stays other differs off_by (λ to_slot. cc) ∙ no_next)

  first : (other child : ℕ) → child_of new other ≡ Some child → new_parent child ≡ other
  first other child is =
      child_cases (new_parent child ≡ other) other (λ same own. absurd (cc))
      (λ to_slot over. let one : child ≡ by = cc in
      ap new_parent one ∙ parent_own ∙ forest.first other slot to_slot)
      (λ differs off stays. let was : child_of old other ≡ Some child = sym stays ∙ is in
      parent_stays child (not_by child other (forest.child_back other child was) differs)
      ∙ forest.first other child was)

  row : (other next : ℕ) → next_of new other ≡ Some next → new_parent next ≡ new_parent other
  row other next is =
      next_cases (new_parent next ≡ new_parent other) other (λ own same. absurd (cc))
      (λ same moved. let was : next_of old slot ≡ Some next = sym moved ∙ is in
      parent_stays next (behind_off next was) ∙ forest.row slot next was
      ∙ sym (ap new_parent same ∙ parent_own))
      (λ to_slot over. let one : next ≡ by = cc in
      ap new_parent one ∙ parent_own ∙ forest.row other slot to_slot
      ∙ sym (parent_stays other (no_round other to_slot)))
      (λ differs off_by stays. let was : next_of old other ≡ Some next = sym stays ∙ is in
      parent_stays next (not_by next other (forest.next_back other next was) differs)
      ∙ forest.row other next was ∙ sym (parent_stays other off_by))

  ordered : (other before : ℕ) → previous_of new other ≡ Some before
      → moment_of new (new_parent other) ≤ moment_of new other
  ordered other before is =
      let same = same_moment old new replaces.expiries in
      let was : moment_of old (new_parent other) ≤ moment_of old other =
      previous_cases (moment_of old (new_parent other) ≤ moment_of old other) other
      (λ own here. absurd (cc))
      (λ here moved. let above = forest.ordered slot before (sym moved ∙ is) in
      let under = forest.ordered by slot by_back in
      omega (
        arith,
        ap (λ s. moment_of old (new_parent s)) here,
        ap (moment_of old) parent_own,
        ap (moment_of old) (forest.first slot by child_is),
        ap (moment_of old) here,
      ))
      (λ behind over.
      omega (
        arith,
        forest.ordered other slot (forest.next_back slot other behind),
        ap (moment_of old) (parent_stays other (behind_off other behind)),
      ))
      (λ differs off_by not_behind stays.
      omega (arith, forest.ordered other before (sym stays ∙ is), ap (moment_of old) (parent_stays other off_by))) in
      omega (arith, same other, same (new_parent other))

  rises : (other before : ℕ) → previous_of new other ≡ Some before → new_rank before < new_rank other
  rises other before is =
      let low = less in
      previous_cases (new_rank before < new_rank other) other (λ own same. absurd (cc))
      (λ same moved. let lower = forest.rises slot before (sym moved ∙ is) in
      let off : before ≢ slot = λ is_slot. let also = ap rank is_slot in absurd (omega arith) in
      let off_by : before ≢ by = λ is_by. let also = ap rank is_by in absurd (omega arith) in
      omega (arith, ap new_rank same, rank_of_by, rank_of_other before off off_by))
      (λ behind over. let one : before ≡ by = cc in
      let back = forest.next_back slot other behind in
      let higher = forest.rises other slot back in
      let off : other ≢ slot = λ is_slot. let also = ap rank is_slot in absurd (omega arith) in
      omega (arith, ap new_rank one, rank_of_by, rank_of_other other off (behind_off other behind)))
      (λ differs off_by not_behind stays. let was : previous_of old other ≡ Some before = sym stays ∙ is in
      let higher = forest.rises other before was in
      let off = before_off other before was off_by not_behind in
      let own = rank_of_other other differs off_by in
      ⊎_elim (λ is_by. let also = ap rank is_by in omega (arith, ap new_rank is_by, rank_of_by))
      (λ before_off_by. omega (arith, rank_of_other before off before_off_by))
      (cases_eq before by))

  slot_within : slot < length old
  slot_within = in_room-child old slot by child_is

  by_within : by < length old
  by_within = child_in_room old parent rank forest slot by child_is

  rank_cases : (P : Type 0) (other : ℕ) → (other ≡ slot → new_rank other ≡ rank by → P)
      → (other ≡ by → new_rank other ≡ rank slot → P)
      → (other ≢ slot → other ≢ by → new_rank other ≡ rank other → P) → P
  rank_cases P other is_slot is_by stays =
      ⊎_elim (λ same. is_slot same (ap new_rank same ∙ rank_of_slot))
      (λ off. ⊎_elim (λ same. is_by same (ap new_rank same ∙ rank_of_by))
      (λ off_by. stays off off_by (rank_of_other other off off_by))
      (cases_eq other by))
      (cases_eq other slot)

  in_room : (other : ℕ) → other < length old → new_rank other < length old
  in_room other within =
      let slot_room = forest.in_room slot slot_within in
      let by_room = forest.in_room by by_within in
      let own = forest.in_room other within in
      rank_cases (new_rank other < length old) other (λ same is. omega arith) (λ same is. omega arith)
      (λ off off_by is. omega arith)

  distinct : (other another : ℕ) → other < length old → another < length old
      → new_rank other ≡ new_rank another → other ≡ another
  distinct other another within inside same =
      let apart_ranks = less in
      rank_cases (other ≡ another) other
      (λ one is. rank_cases (other ≡ another) another (λ also has. one ∙ sym also)
      (λ also has. absurd (omega arith))
      (λ off off_by has. absurd (off_by (forest.distinct another by inside by_within (sym has ∙ sym same ∙ is)))))
      (λ one is. rank_cases (other ≡ another) another (λ also has. absurd (omega arith))
      (λ also has. one ∙ sym also)
      (λ off off_by has. absurd (off (forest.distinct another slot inside slot_within (sym has ∙ sym same ∙ is)))))
      (λ off off_by is. rank_cases (other ≡ another) another
      (λ also has. absurd (off_by (forest.distinct other by within by_within (sym is ∙ same ∙ has))))
      (λ also has. absurd (off (forest.distinct other slot within slot_within (sym is ∙ same ∙ has))))
      (λ another_off another_off_by has. forest.distinct other another within inside (sym is ∙ same ∙ has)))

  pub replaced_forest : IsForest new new_parent new_rank
  replaced_forest = record {
    vacant = vacant;
    child_back = child_back;
    next_back = next_back;
    linked = linked;
    apart = apart;
    alone = alone;
    first = first;
    row = row;
    ordered = ordered;
    rises = rises;
    in_room = λ other within. let was = in_room other (omega arith) in omega arith;
    distinct = λ other another within inside same.
        distinct other another (omega arith) (omega arith) same;
  }

  -- nothing else enters or leaves a row
  pub replaced_tops : (other : ℕ) → other ≢ slot → other ≢ by
      → is_some (previous_of new other) ≡ is_some (previous_of old other)
  replaced_tops other differs off_by =
      previous_cases (is_some (previous_of new other) ≡ is_some (previous_of old other)) other
      (λ own same. absurd (differs same)) (λ same moved. absurd (off_by same))
      (λ behind over. ap is_some over ∙ sym (ap is_some (forest.next_back slot other behind)))
      (λ off also not_behind stays. ap is_some stays)
