-- An entry that stands alone with none under it: nothing hangs on its rank, so it may go under any other.
use Rattle.std.proofs.Common.{◌≡◌, ℕ, ◌+◌, ◌-◌, ◌<◌, ◌≤◌, ◌≢◌, List, length, Option, Some, IsSome, is_some, cond, eqb, ltb, refl, sym, ap, ◌∙◌, arith, ⊎_elim}
use Rattle.std.proofs.Math.Logic.{∥∥₁_elim, ∥∥₁_map}
use Rattle.std.proofs.Props.{props}
use Rattle.std.proofs.lemmas.Bool.{cases_eq, lt-ltb, le-ltb, eq-eqb, ne_eqb}
use Rattle.rb_pairing.specs.declared.node.Node.{Node}
use Rattle.rb_pairing.specs.Nodes.{expiry_of, previous_of, moment_of}
use Rattle.rb_pairing.specs.Forest.{HasNoLinks, IsForest, LieAsTrees, IsTop}
use Rattle.rb_pairing.specs.Changes.{Adopts, Melds}
use Rattle.rb_pairing.proofs.AdoptedTrees.{MayAdopt, new_parent, new_rank, adopted_forest, adopted_tops}
use Rattle.rb_pairing.proofs.Expiries.{same_expiry, same_length}
use Rattle.rb_pairing.proofs.InRoom.{in_room-expiry, in_room-previous, previous_in_room}
use Rattle.rb_pairing.proofs.LinkTests.{none_as}

module _ (nodes : List Node) (parent rank : ℕ → ℕ) (forest : IsForest nodes parent rank) (slot : ℕ)
    (within : slot < length nodes) (free : HasNoLinks nodes slot) where
  -- the slot has the last rank of the room, and each that was behind its old one is one lower
  abbrev pub sunk : ℕ → ℕ
  sunk other =
      cond (eqb other slot) (length nodes - 1) (cond (ltb (rank slot) (rank other)) (rank other - 1) (rank other))

  pub sunk_own : sunk slot + 1 ≡ length nodes
  sunk_own =
      let last : sunk slot ≡ length nodes - 1 =
      ap (λ b. cond b (length nodes - 1) (cond (ltb (rank slot) (rank slot)) (rank slot - 1) (rank slot)))
      (eq-eqb slot slot refl) in
      omega arith

  sunk_other : (other : ℕ) → other ≢ slot
      → sunk other ≡ cond (ltb (rank slot) (rank other)) (rank other - 1) (rank other)
  sunk_other other off =
      ap (λ b. cond b (length nodes - 1) (cond (ltb (rank slot) (rank other)) (rank other - 1) (rank other)))
      (ne_eqb other slot off)

  -- one lower behind the slot's old rank, and as it was before that
  lower : (other : ℕ) → other ≢ slot → rank slot < rank other → sunk other + 1 ≡ rank other
  lower other off more =
      omega (
        arith,
        sunk_other other off,
        ap (λ b. cond b (rank other - 1) (rank other)) (lt-ltb (rank slot) (rank other) more),
      )

  stays : (other : ℕ) → other ≢ slot → rank other ≤ rank slot → sunk other ≡ rank other
  stays other off less =
      sunk_other other off ∙ ap (λ b. cond b (rank other - 1) (rank other)) (le-ltb (rank slot) (rank other) less)

  ranks_differ : (other : ℕ) → other < length nodes → other ≢ slot → rank other ≢ rank slot
  ranks_differ other low off same = off (forest.distinct other slot low within same)

  in_room : (other : ℕ) → other < length nodes → sunk other < length nodes
  in_room other low =
      let own = sunk_own in
      ⊎_elim (λ same. omega (arith, ap sunk same))
      (λ off. let was = forest.in_room other low in grind (arith, lower other off, stays other off))
      (cases_eq other slot)

  distinct : (other another : ℕ) → other < length nodes → another < length nodes
      → sunk other ≡ sunk another → other ≡ another
  distinct other another low also equal =
      let own = sunk_own in
      let room = forest.in_room other low in
      let another_room = forest.in_room another also in
      ⊎_elim
      (λ same. ⊎_elim (λ another_same. same ∙ sym another_same)
      (λ off. let apart = ranks_differ another also off in let one = ap sunk same in
      absurd (grind (arith, lower another off, stays another off)))
      (cases_eq another slot))
      (λ off. let apart = ranks_differ other low off in
      ⊎_elim
      (λ another_same. let one = ap sunk another_same in absurd (grind (arith, lower other off, stays other off)))
      (λ another_off. let another_apart = ranks_differ another also another_off in
      forest.distinct other another low also
      (grind (arith, lower other off, stays other off, lower another another_off, stays another another_off)))
      (cases_eq another slot))
      (cases_eq other slot)

  -- nothing is linked to the slot, and it is linked to nothing
  not_slot : (other before : ℕ) → previous_of nodes other ≡ Some before → other ≢ slot
  not_slot other before is same = let none = ap (previous_of nodes) same ∙ free.previous in cc

  not_before : (other before : ℕ) → previous_of nodes other ≡ Some before → before ≢ slot
  not_before other before is same =
      let back : previous_of nodes other ≡ Some slot = is ∙ ap Some same in
      let none = free.next in
      let next = forest.linked other slot back (λ child. let no_child = free.child in cc) in cc

  rises : (other before : ℕ) → previous_of nodes other ≡ Some before → sunk before < sunk other
  rises other before is =
      let less = forest.rises other before is in
      let off = not_slot other before is in
      let before_off = not_before other before is in
      let apart = ranks_differ other (in_room-previous nodes other before is) off in
      let before_apart =
      ranks_differ before (previous_in_room nodes parent rank forest other before is) before_off in
      grind (arith, lower other off, stays other off, lower before before_off, stays before before_off)

  pub sunk_forest : IsForest nodes parent sunk
  sunk_forest = record {
    vacant = forest.vacant;
    child_back = forest.child_back;
    next_back = forest.next_back;
    linked = forest.linked;
    apart = forest.apart;
    alone = forest.alone;
    first = forest.first;
    row = forest.row;
    ordered = forest.ordered;
    rises = rises;
    in_room = in_room;
    distinct = distinct;
  }

  -- so what is before another has a lower rank than the slot
  pub sunk_under : (other before : ℕ) → previous_of nodes other ≡ Some before → sunk before < sunk slot
  sunk_under other before is =
      let own = sunk_own in
      let inside = previous_in_room nodes parent rank forest other before is in
      let room = in_room before inside in
      let apart : sunk before ≢ sunk slot =
      λ same. not_before other before is (distinct before slot inside within same) in
      omega arith

module _ (old new : List Node) (above slot : ℕ) (linked : LieAsTrees old)
    (present : IsSome (expiry_of old above)) (entry : IsSome (expiry_of old slot)) (free : HasNoLinks old slot)
    (apart : above ≢ slot) (ordered : moment_of old above ≤ moment_of old slot)
    (adopts : Adopts old new above slot) where
  long : length new ≡ length old
  long = same_length old new adopts.expiries

  within : slot < length old
  within = in_room-expiry old slot entry

  module _ (parent rank : ℕ → ℕ) (forest : IsForest old parent rank) where
    abbrev ranks : ℕ → ℕ
    ranks = sunk old parent rank forest slot within free

    ranked : IsForest old parent ranks
    ranked = sunk_forest old parent rank forest slot within free

    may : MayAdopt old ranks above slot
    may = record {
      top = record { present = entry; alone = free.previous };
      present = present;
      apart = apart;
      ordered = ordered;
      under = sunk_under old parent rank forest slot within free above;
    }

  hung_linked : LieAsTrees new
  hung_linked =
      ∥∥₁_map linked
      (λ forest. let parent = forest.parent in let rank = forest.rank in let was = forest.is_forest in record {
        parent = new_parent old new above slot long parent (ranks parent rank was) (ranked parent rank was)
            (may parent rank was) adopts;
        rank = new_rank old new above slot long parent (ranks parent rank was) (ranked parent rank was)
            (may parent rank was) adopts;
        is_forest = adopted_forest old new above slot long parent (ranks parent rank was) (ranked parent rank was)
            (may parent rank was) adopts;
      })

  hung_tops : (other : ℕ) → other ≢ slot
      → is_some (previous_of new other) ≡ is_some (previous_of old other)
  hung_tops other differs =
      ∥∥₁_elim linked (hlevel props)
      (λ forest. adopted_tops old new above slot long forest.parent
      (ranks forest.parent forest.rank forest.is_forest) (ranked forest.parent forest.rank forest.is_forest)
      (may forest.parent forest.rank forest.is_forest) adopts other differs)

  -- another entry that is on top stays there
  pub melds_leaf : (root : Option ℕ) → ((other : ℕ) → root ≡ Some other → IsTop old other)
      → ((other : ℕ) → root ≡ Some other → other ≢ slot) → Melds old new root (Some slot) root
  melds_leaf root top off = record {
    linked = hung_linked;
    expiries = adopts.expiries;
    top = λ other is. record {
      present = ap is_some (same_expiry old new adopts.expiries other) ∙ (top other is).present;
      alone = none_as (previous_of new other) (previous_of old other) (hung_tops other (off other is))
          (top other is).alone;
    };
    of_one = λ other is none. is;
    of_other = λ other is none. let same : other ≡ slot = cc in
        let own = ap (previous_of new) same ∙ adopts.previous_own in absurd (cc);
    tops = λ other off_one off_other. hung_tops other (λ is. off_other (ap Some (sym is)));
  }
