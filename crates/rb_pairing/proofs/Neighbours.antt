-- Two neighbours of a row, one of which is put under the other.
use Rattle.std.proofs.Common.{◌≡◌, ℕ, ◌<◌, ◌≢◌, List, length, Some, IsSome, is_some, true, min, max, refl, sym, ap, ◌∙◌, subst, arith, ⊎_elim}
use Rattle.std.proofs.lemmas.Bool.{cases_eq}
use Rattle.rb_pairing.specs.declared.node.Node.{Node}
use Rattle.rb_pairing.specs.Nodes.{expiry_of, child_of, next_of, previous_of, expiries}
use Rattle.rb_pairing.specs.Forest.{IsForest}
use Rattle.rb_pairing.specs.Changes.{Moves, Joins}
use Rattle.rb_pairing.proofs.Expiries.{same_expiry, same_moment, same_length}
use Rattle.rb_pairing.proofs.LinkTests.{is_some-unless}
use Rattle.rb_pairing.proofs.CutTrees.{cut_forest, cut_tops}
use Rattle.rb_pairing.proofs.AdoptedTrees.{MayAdopt, new_parent, new_rank, parent_stays, rank_of_above, rank_of_other, adopted_forest, adopted_tops}

-- what follows from two neighbours being joined
pub record Joined (old new : List Node) (parent rank : ℕ → ℕ) (left right stays : ℕ) : Type 0 where
  pub parents : ℕ → ℕ
  pub ranks : ℕ → ℕ
  pub forest : IsForest new parents ranks
  pub under : parents stays ≡ parent left
  pub rank_stays : ranks stays ≡ rank left
  pub next : next_of new stays ≡ next_of old right
  pub beyond : (other : ℕ) → rank right < rank other → ranks other ≡ rank other
  pub beyond_under : (other : ℕ) → rank right < rank other → parents other ≡ parent other
  pub expiries : expiries new ≡ expiries old
  pub tops : (other : ℕ) → is_some (previous_of new other) ≡ is_some (previous_of old other)
  pub in_row : is_some (previous_of new stays) ≡ true

module _ (nodes : List Node) (parent rank : ℕ → ℕ) (forest : IsForest nodes parent rank) (slot other : ℕ) where
  -- an entry with another behind it is in a row
  pub in_row-next : next_of nodes slot ≡ Some other → is_some (previous_of nodes slot) ≡ true
  in_row-next is =
      is_some-unless (previous_of nodes slot) (λ none. let no_next = forest.alone slot none in cc)

  -- a slot with a link has an entry
  pub present-next : next_of nodes slot ≡ Some other → IsSome (expiry_of nodes slot)
  present-next is =
      is_some-unless (expiry_of nodes slot) (λ none. let no_next = (forest.vacant slot none).next in cc)

  pub present-child : child_of nodes slot ≡ Some other → IsSome (expiry_of nodes slot)
  present-child is =
      is_some-unless (expiry_of nodes slot) (λ none. let no_child = (forest.vacant slot none).child in cc)

  pub present-previous : previous_of nodes slot ≡ Some other → IsSome (expiry_of nodes slot)
  present-previous is =
      is_some-unless (expiry_of nodes slot) (λ none. let no_previous = (forest.vacant slot none).previous in cc)

module _ (old new : List Node) (earlier later : ℕ) (parent rank : ℕ → ℕ) (forest : IsForest old parent rank)
    (moves : Moves old new earlier later) (apart : earlier ≢ later)
    (present : IsSome (expiry_of old earlier)) (present_later : IsSome (expiry_of old later))
    (in_row : is_some (previous_of old later) ≡ true)
    (under : (other : ℕ) → previous_of moves.between earlier ≡ Some other → rank other < rank later) where
  cut_long : length moves.between ≡ length old
  cut_long = same_length old moves.between moves.cuts.expiries

  adopted_long : length new ≡ length moves.between
  adopted_long = same_length moves.between new moves.adopts.expiries

  cut_trees : IsForest moves.between parent rank
  cut_trees = cut_forest old moves.between later cut_long parent rank forest moves.cuts

  same : (slot : ℕ) → expiry_of moves.between slot ≡ expiry_of old slot
  same = same_expiry old moves.between moves.cuts.expiries

  may : MayAdopt moves.between rank earlier later
  may = record {
    top = record { present = ap is_some (same later) ∙ present_later; alone = moves.cuts.previous_own };
    present = ap is_some (same earlier) ∙ present;
    apart = apart;
    ordered = let moment = same_moment old moves.between moves.cuts.expiries in
        let less = moves.ordered in
        omega (arith, moment earlier, moment later);
    under = under;
  }

  abbrev parents : ℕ → ℕ
  parents = new_parent moves.between new earlier later adopted_long parent rank cut_trees may moves.adopts

  abbrev ranks : ℕ → ℕ
  ranks = new_rank moves.between new earlier later adopted_long parent rank cut_trees may moves.adopts

  tops : (other : ℕ) → is_some (previous_of new other) ≡ is_some (previous_of old other)
  tops other =
      ⊎_elim
      (λ is. ap (λ slot. is_some (previous_of new slot)) is ∙ ap is_some moves.adopts.previous_own
      ∙ sym in_row ∙ sym (ap (λ slot. is_some (previous_of old slot)) is))
      (λ differs. adopted_tops moves.between new earlier later adopted_long parent rank cut_trees may moves.adopts other differs
      ∙ cut_tops old moves.between later cut_long parent rank forest moves.cuts other differs)
      (cases_eq other later)

  pub moved : (left right : ℕ) → rank left < rank right
      → min (rank earlier) (rank later) ≡ rank left → max (rank earlier) (rank later) ≡ rank right
      → parent earlier ≡ parent left → next_of new earlier ≡ next_of old right
      → is_some (previous_of old earlier) ≡ true → Joined old new parent rank left right earlier
  moved left right less low high same_parent next earlier_in_row = record {
    parents = parents;
    ranks = ranks;
    forest = adopted_forest moves.between new earlier later adopted_long parent rank cut_trees may moves.adopts;
    under = parent_stays moves.between new earlier later adopted_long parent rank cut_trees may moves.adopts earlier apart
        ∙ same_parent;
    rank_stays = rank_of_above moves.between new earlier later adopted_long parent rank cut_trees may moves.adopts ∙ low;
    next = next;
    beyond = λ other more.
        let off_earlier : other ≢ earlier = λ is. let same_rank = ap rank is in absurd (omega arith) in
        let off_later : other ≢ later = λ is. let same_rank = ap rank is in absurd (omega arith) in
        let lifts = rank_of_other moves.between new earlier later adopted_long parent rank cut_trees may moves.adopts
        other off_earlier off_later in
        lifts.over (omega arith);
    beyond_under = λ other more.
        let off_later : other ≢ later = λ is. let same_rank = ap rank is in absurd (omega arith) in
        parent_stays moves.between new earlier later adopted_long parent rank cut_trees may moves.adopts other off_later;
    expiries = moves.adopts.expiries ∙ moves.cuts.expiries;
    tops = tops;
    in_row = tops earlier ∙ earlier_in_row;
  }

module _ (old new : List Node) (left right stays : ℕ) (parent rank : ℕ → ℕ) (forest : IsForest old parent rank)
    (neighbours : next_of old left ≡ Some right) where
  back : previous_of old right ≡ Some left
  back = forest.next_back left right neighbours

  less : rank left < rank right
  less = forest.rises right left back

  apart : left ≢ right
  apart is = let same_rank = ap rank is in let low = less in absurd (omega arith)

  not_round : next_of old right ≢ Some left
  not_round is =
      let low = less in
      let high = forest.rises left right (forest.next_back right left is) in absurd (omega arith)

  left_present : IsSome (expiry_of old left)
  left_present = present-next old parent rank forest left right neighbours

  right_present : IsSome (expiry_of old right)
  right_present = present-previous old parent rank forest right left back

  left_stays : Moves old new left right → Joined old new parent rank left right left
  left_stays moves =
      let low = less in
      moved old new left right parent rank forest moves apart left_present right_present (ap is_some back)
      (λ other is. let was : previous_of old left ≡ Some other =
      sym (moves.cuts.previous_stays left apart not_round) ∙ is in
      let lower = forest.rises left other was in omega arith)
      left right less (omega arith) (omega arith) refl
      (moves.adopts.next_stays left apart ∙ moves.cuts.next left neighbours)
      (in_row-next old parent rank forest left right neighbours)

  right_stays : Moves old new right left → Joined old new parent rank left right right
  right_stays moves =
      let low = less in
      let differ : right ≢ left = λ is. apart (sym is) in
      moved old new right left parent rank forest moves differ right_present left_present
      (in_row-next old parent rank forest left right neighbours)
      (λ other is. let was : previous_of old left ≡ Some other = sym (moves.cuts.previous right neighbours) ∙ is in
      forest.rises left other was)
      left right less (omega arith) (omega arith) (forest.row left right neighbours)
      (moves.adopts.next_stays right differ ∙ moves.cuts.next_stays right differ not_round)
      (ap is_some back)

  pub joined : Joins old new left right stays → Joined old new parent rank left right stays
  joined =
      ⊎_elim
      (λ (is, moves). subst (Joined old new parent rank left right) (sym is) (left_stays moves))
      (λ (is, moves). subst (Joined old new parent rank left right) (sym is) (right_stays moves))
