-- Trees after one is cut out of its row: it stands alone, and the others lie as trees still.
use Rattle.std.proofs.Common.{◌≡◌, ℕ, ◌<◌, ◌≤◌, ◌≢◌, List, length, Some, None, is_some, sym, ap, ◌∙◌, arith, ⊎_elim}
use Rattle.std.proofs.Math.Logic.{∥∥₁_map}
use Rattle.std.proofs.lemmas.Bool.{cases_eq}
use Rattle.rb_pairing.specs.declared.node.Node.{Node}
use Rattle.rb_pairing.specs.Nodes.{expiry_of, child_of, next_of, previous_of, moment_of}
use Rattle.rb_pairing.specs.Forest.{HasNoLinks, IsForest, LieAsTrees}
use Rattle.rb_pairing.specs.Changes.{Cuts}
use Rattle.rb_pairing.proofs.Expiries.{same_expiry, same_moment, same_length}
use Rattle.rb_pairing.proofs.LinkTests.{cases_link, is_some-unless}

module _ (old new : List Node) (slot : ℕ) (long : length new ≡ length old) (parent rank : ℕ → ℕ)
    (forest : IsForest old parent rank) (cuts : Cuts old new slot) where
  -- one entry has one before it
  one_previous : (other before another : ℕ) → previous_of old other ≡ Some before
      → previous_of old other ≡ Some another → before ≡ another
  one_previous other before another is also = cc

  -- a link to a child is to the slot, and then leads past it, or is as it was
  child_cases : (P : Type 0) (other : ℕ)
      → (child_of old other ≡ Some slot → child_of new other ≡ next_of old slot → P)
      → (child_of old other ≢ Some slot → child_of new other ≡ child_of old other → P) → P
  child_cases P other over stays =
      ⊎_elim (λ is. over is (cuts.child other is)) (λ off. stays off (cuts.child_stays other off))
      (cases_link (child_of old other) slot)

  -- so is a link to the next, but for the slot's own
  next_cases : (P : Type 0) (other : ℕ) → (next_of new other ≡ None → other ≡ slot → P)
      → (next_of old other ≡ Some slot → next_of new other ≡ next_of old slot → other ≢ slot → P)
      → (next_of old other ≢ Some slot → next_of new other ≡ next_of old other → other ≢ slot → P) → P
  next_cases P other own over stays =
      ⊎_elim (λ same. own (ap (next_of new) same ∙ cuts.next_own) same)
      (λ apart. ⊎_elim (λ is. over is (cuts.next other is) apart)
      (λ off. stays off (cuts.next_stays other apart off) apart)
      (cases_link (next_of old other) slot))
      (cases_eq other slot)

  -- what was behind the slot has before it what the slot had, and the slot has none
  previous_cases : (P : Type 0) (other : ℕ) → (previous_of new other ≡ None → other ≡ slot → P)
      → (next_of old slot ≡ Some other → previous_of new other ≡ previous_of old slot → P)
      → (next_of old slot ≢ Some other → previous_of new other ≡ previous_of old other → other ≢ slot → P)
      → P
  previous_cases P other own over stays =
      ⊎_elim (λ same. own (ap (previous_of new) same ∙ cuts.previous_own) same)
      (λ apart. ⊎_elim (λ is. over is (cuts.previous other is))
      (λ off. stays off (cuts.previous_stays other apart off) apart)
      (cases_link (next_of old slot) other))
      (cases_eq other slot)

  vacant : (other : ℕ) → expiry_of new other ≡ None → HasNoLinks new other
  vacant other none =
      let was = forest.vacant other (sym (same_expiry old new cuts.expiries other) ∙ none) in
      record {
        child = child_cases (child_of new other ≡ None) other
            (λ is over. let empty = was.child in absurd (cc))
            (λ off stays. stays ∙ was.child);
        next = next_cases (next_of new other ≡ None) other (λ own same. own)
            (λ is over apart. let empty = was.next in absurd (cc))
            (λ off stays apart. stays ∙ was.next);
        previous = previous_cases (previous_of new other ≡ None) other (λ own same. own)
            (λ is over. let empty = was.previous in let back = forest.next_back slot other is in absurd (cc))
            (λ off stays apart. stays ∙ was.previous);
      }

  child_back : (other child : ℕ) → child_of new other ≡ Some child
      → previous_of new child ≡ Some other
  child_back other child is =
      child_cases (previous_of new child ≡ Some other) other
      (λ to_slot over. cuts.previous child (sym over ∙ is) ∙ forest.child_back other slot to_slot)
      (λ off stays. let was : child_of old other ≡ Some child = sym stays ∙ is in
      let back = forest.child_back other child was in
      cuts.previous_stays child (λ same. off (was ∙ ap Some same))
      (λ behind. let same : other ≡ slot = one_previous child other slot back (forest.next_back slot child behind) in
      forest.apart other child was (ap (next_of old) same ∙ behind))
      ∙ back)

  next_back : (other next : ℕ) → next_of new other ≡ Some next → previous_of new next ≡ Some other
  next_back other next is =
      next_cases (previous_of new next ≡ Some other) other (λ own same. absurd (cc))
      (λ to_slot over apart. cuts.previous next (sym over ∙ is) ∙ forest.next_back other slot to_slot)
      (λ off stays apart. let was : next_of old other ≡ Some next = sym stays ∙ is in
      let back = forest.next_back other next was in
      cuts.previous_stays next (λ same. off (was ∙ ap Some same))
      (λ behind. apart (one_previous next other slot back (forest.next_back slot next behind)))
      ∙ back)

  linked : (other before : ℕ) → previous_of new other ≡ Some before
      → child_of new before ≢ Some other → next_of new before ≡ Some other
  linked other before is no_child =
      previous_cases (next_of new before ≡ Some other) other (λ own same. absurd (cc))
      (λ behind over. let was : previous_of old slot ≡ Some before = sym over ∙ is in
      child_cases (next_of new before ≡ Some other) before
      (λ to_slot past. absurd (no_child (past ∙ behind)))
      (λ off stays. cuts.next before (forest.linked slot before was off) ∙ behind))
      (λ off stays apart. let was : previous_of old other ≡ Some before = sym stays ∙ is in
      let not_first : child_of old before ≢ Some other =
      λ first. no_child (cuts.child_stays before (λ to_slot. apart (cc)) ∙ first) in
      let follows : next_of old before ≡ Some other = forest.linked other before was not_first in
      cuts.next_stays before (λ same. off (sym (ap (next_of old) same) ∙ follows))
      (λ to_slot. apart (cc)) ∙ follows)

  apart : (other child : ℕ) → child_of new other ≡ Some child → next_of new other ≢ Some child
  apart other child is bad =
      child_cases ⊥ other
      (λ to_slot over. let behind : next_of old slot ≡ Some child = sym over ∙ is in
      let back = forest.next_back slot child behind in
      next_cases ⊥ other (λ own same. cc)
      (λ next_slot past differs. forest.apart other slot to_slot next_slot)
      (λ off stays differs. differs
      (one_previous child other slot (forest.next_back other child (sym stays ∙ bad)) back)))
      (λ off stays. let was : child_of old other ≡ Some child = sym stays ∙ is in
      let back = forest.child_back other child was in
      next_cases ⊥ other (λ own same. cc)
      (λ next_slot past differs. differs
      (one_previous child other slot back (forest.next_back slot child (sym past ∙ bad))))
      (λ no_slot same_next differs. forest.apart other child was (sym same_next ∙ bad)))

  alone : (other : ℕ) → previous_of new other ≡ None → next_of new other ≡ None
  alone other none =
      previous_cases (next_of new other ≡ None) other
      (λ own same. ap (next_of new) same ∙ cuts.next_own)
      (λ behind over. let no_next = forest.alone slot (sym over ∙ none) in absurd (cc))
      (λ off stays differs. let no_next = forest.alone other (sym stays ∙ none) in
      cuts.next_stays other differs (λ to_slot. cc) ∙ no_next)

  first : (other child : ℕ) → child_of new other ≡ Some child → parent child ≡ other
  first other child is =
      child_cases (parent child ≡ other) other
      (λ to_slot over. forest.row slot child (sym over ∙ is) ∙ forest.first other slot to_slot)
      (λ off stays. forest.first other child (sym stays ∙ is))

  row : (other next : ℕ) → next_of new other ≡ Some next → parent next ≡ parent other
  row other next is =
      next_cases (parent next ≡ parent other) other (λ own same. absurd (cc))
      (λ to_slot over differs. forest.row slot next (sym over ∙ is) ∙ forest.row other slot to_slot)
      (λ off stays differs. forest.row other next (sym stays ∙ is))

  ordered : (other before : ℕ) → previous_of new other ≡ Some before
      → moment_of new (parent other) ≤ moment_of new other
  ordered other before is =
      let same = same_moment old new cuts.expiries in
      let was : moment_of old (parent other) ≤ moment_of old other =
      previous_cases (moment_of old (parent other) ≤ moment_of old other) other
      (λ own same. absurd (cc))
      (λ behind over. forest.ordered other slot (forest.next_back slot other behind))
      (λ off stays differs. forest.ordered other before (sym stays ∙ is)) in
      omega (arith, same other, same (parent other))

  rises : (other before : ℕ) → previous_of new other ≡ Some before → rank before < rank other
  rises other before is =
      previous_cases (rank before < rank other) other (λ own same. absurd (cc))
      (λ behind over. let low = forest.rises slot before (sym over ∙ is) in
      let high = forest.rises other slot (forest.next_back slot other behind) in omega arith)
      (λ off stays differs. forest.rises other before (sym stays ∙ is))

  pub cut_forest : IsForest new parent rank
  cut_forest = record {
    vacant = vacant;
    child_back = child_back;
    next_back = next_back;
    linked = linked;
    apart = apart;
    alone = alone;
    first = first;
    row = row;
    ordered = ordered;
    rises = rises;
    in_room = λ other within. let was = forest.in_room other (omega arith) in omega arith;
    distinct = λ other another within inside same.
        forest.distinct other another (omega arith) (omega arith) same;
  }

  -- nothing else leaves its row
  pub cut_tops : (other : ℕ) → other ≢ slot
      → is_some (previous_of new other) ≡ is_some (previous_of old other)
  cut_tops other differs =
      previous_cases (is_some (previous_of new other) ≡ is_some (previous_of old other)) other
      (λ own same. absurd (differs same))
      (λ behind over. let back = forest.next_back slot other behind in
      let in_row = is_some-unless (previous_of old slot)
      (λ none. let no_next = forest.alone slot none in cc) in
      ap is_some over ∙ in_row ∙ sym (ap is_some back))
      (λ off stays apart. ap is_some stays)

-- a cut leaves trees
pub linked_after_cut : (old new : List Node) (slot : ℕ) → LieAsTrees old → Cuts old new slot
    → LieAsTrees new
linked_after_cut old new slot linked cuts =
    ∥∥₁_map linked
    (λ forest. record {
      parent = forest.parent;
      rank = forest.rank;
      is_forest = cut_forest old new slot (same_length old new cuts.expiries) forest.parent forest.rank forest.is_forest cuts;
    })
