-- What a permitted act says of its effect: what leaves stands in the queue, and what comes in is new.
use Rattle.std.proofs.Common.{◌≡◌, ◌≢◌, ℕ, zero, suc, ◌+◌, ◌-◌, ◌<◌, List, [], ◌∷◌, refl, ap, ◌∙◌, arith, Bool, Option, Some, None, true, false, cond, inl, inr, ◌⊎◌, length, nat_eq}
use Rattle.std.proofs.lemmas.Bool.Decides.{nat_tests}
use Rattle.std.proofs.lemmas.List.Sums.{sum_by-cons}
use Rattle.std.specs.Prelude.{IsSome, is_some}
use Rattle.std.specs.FinMap as map
use Rattle.std.specs.FinMap.{get-empty, len-empty, len-insert, len-remove}
use Rattle.std.specs.Ordering.{nat_cmp}
use Rattle.std.specs.Cmp.{nat_cmp_total}
use Rattle.rb_delayed.specs.declared.element.Element.{Element}
use Rattle.rb_queue.specs.declared.act.Act.{Act}
use Rattle.rb_queue.specs.declared.act.Act.TheVariants.{Offer, Poll, Take, PollFor, Remove, Drain}
use Rattle.rb_queue.specs.Bag.{Bag, without}
use Rattle.rb_queue.specs.Head.{IsHead, IsHeadId}
use Rattle.rb_queue.specs.Queue.{Queue}
use Rattle.rb_queue.specs.Effect.{Effect, inserts, gives, removes, empties, effect_of, queue_after, inserted, given, removed, cleared}
use Rattle.rb_queue.specs.Calls.{Permits, AreHeads}
use Rattle.rb_queue.specs.Leaving.{times, standing, offers_of, leavings_of}
use Rattle.rb_queue.specs.Filing.{AreBelow}
use Rattle.rb_queue.proofs.Options.{same_or_not, value_and}
use Rattle.rb_queue.proofs.Bags.{get_inserted_same, get_inserted_other, get_removed_same, get_removed_other}
use Rattle.rb_queue.proofs.Queues.{below_empty, below_insert, below_remove, next_absent}

-- one or nothing
abbrev pub bit : Bool → ℕ
bit b = cond b 1 0

-- each id is in the bag that those before it left
abbrev pub AreTaken : Bag → List ℕ → Type 0
AreTaken bag [] = Unit {0}
AreTaken bag (id ∷ ids) = IsSome (map.get bag id) × AreTaken (map.remove bag id) ids

-- what leaves is there, and what comes in has the next id
abbrev pub FitsIn : Queue → Effect → Type 0
FitsIn queue (inserts element) = element.id ≡ queue.next_id
FitsIn queue (gives ids) = AreTaken queue.bag ids
FitsIn queue (removes ids) = AreTaken queue.bag ids
FitsIn queue empties = Unit {0}

head_taken : (bag : Bag) (now id : ℕ) → IsHeadId bag now id → IsSome (map.get bag id)
head_taken bag now id head = of_value (value_and _ _ head)
  where
    of_value : (element : Element) × (map.get bag id ≡ Some element) × IsHead bag now element → IsSome (map.get bag id)
    of_value (element, found, is) = ap is_some found

heads_taken : (bag : Bag) (now : ℕ) (ids : List ℕ) → AreHeads bag now ids → AreTaken bag ids
heads_taken bag now [] heads = tt
heads_taken bag now (id ∷ ids) heads = (head_taken bag now id heads.0, heads_taken (map.remove bag id) now ids heads.1)

-- a permitted act has an effect that fits
pub permitted_fits : (queue : Queue) (now : ℕ) (act : Act) → Permits queue now act → FitsIn queue (effect_of act)
permitted_fits queue now (Offer element) permitted = permitted
permitted_fits queue now (Poll (Some id)) permitted = (head_taken queue.bag now id permitted, tt)
permitted_fits queue now (Take id) permitted = (head_taken queue.bag now id permitted, tt)
permitted_fits queue now (PollFor start timeout (Some id)) permitted = (head_taken queue.bag now id permitted, tt)
permitted_fits queue now (Remove id true) permitted = (permitted.0 refl, tt)
permitted_fits queue now (Drain max ids) permitted = heads_taken queue.bag now ids permitted.heads
permitted_fits queue now act permitted = tt

below_without : (bag : Bag) (ids : List ℕ) (next : ℕ) → AreBelow bag next → AreBelow (without bag ids) next
below_without bag [] next below = below
below_without bag (id ∷ ids) next below = below_without (map.remove bag id) ids next (below_remove bag next id below)

-- the ids stay below the next one
pub below_after : (queue : Queue) (effect : Effect) → FitsIn queue effect → AreBelow queue.bag queue.next_id → AreBelow (queue_after queue effect).bag (queue_after queue effect).next_id
below_after queue (inserts element) fits below = below_insert queue.bag queue.next_id element below fits
below_after queue (gives ids) fits below = below_without queue.bag ids queue.next_id below
below_after queue (removes ids) fits below = below_without queue.bag ids queue.next_id below
below_after queue empties fits below = below_empty queue.next_id

pub times_cons : (id first : ℕ) (ids : List ℕ) → times id (first ∷ ids) ≡ bit (nat_eq first id) + times id ids
times_cons id first ids = sum_by-cons (λ one. bit (nat_eq one id)) first ids

-- what a removal takes from what stands
standing_removed : (bag : Bag) (id first : ℕ) → IsSome (map.get bag first) → standing id bag ≡ bit (nat_eq first id) + standing id (map.remove bag first)
standing_removed bag id first present = by_id (same_or_not id first)
  where
    by_id : (id ≡ first) ⊎ (id ≢ first) → standing id bag ≡ bit (nat_eq first id) + standing id (map.remove bag first)
    by_id (inl same) =
        let test : nat_eq first id ≡ true = grind (arith, nat_tests) in
        let here : is_some (map.get bag id) ≡ true = ap (λ i. is_some (map.get bag i)) same ∙ present in
        let gone : is_some (map.get (map.remove bag first) id) ≡ false = ap is_some (ap (map.get (map.remove bag first)) same ∙ get_removed_same bag first) in
        let left : standing id bag ≡ 1 = ap bit here in
        let right : standing id (map.remove bag first) ≡ 0 = ap bit gone in
        let one : bit (nat_eq first id) ≡ 1 = ap bit test in
        omega (arith, left, right, one)
    by_id (inr differ) =
        let test : nat_eq first id ≡ false = grind (arith, nat_tests) in
        let none : bit (nat_eq first id) ≡ 0 = ap bit test in
        let same : standing id (map.remove bag first) ≡ standing id bag = ap (λ (o : Option Element). bit (is_some o)) (get_removed_other bag first id differ) in
        omega (arith, none, same)

standing_without : (bag : Bag) (id : ℕ) (ids : List ℕ) → AreTaken bag ids → standing id bag ≡ times id ids + standing id (without bag ids)
standing_without bag id [] taken = omega arith
standing_without bag id (first ∷ ids) taken =
    let here = standing_removed bag id first taken.0 in
    let rest = standing_without (map.remove bag first) id ids taken.1 in
    omega (arith, here, rest, times_cons id first ids)

-- What stood or came in leaves or stands: for each id.
pub standing_after : (queue : Queue) (effect : Effect) (id : ℕ) → FitsIn queue effect → AreBelow queue.bag queue.next_id
    → standing id queue.bag + offers_of id effect ≡ leavings_of id queue.bag effect + standing id (queue_after queue effect).bag
standing_after queue (inserts element) id fits below = by_id (same_or_not id element.id)
  where
    offers : offers_of id (inserts element) ≡ bit (nat_eq element.id id)
    offers = times_cons id element.id [] ∙ omega arith

    by_id : (id ≡ element.id) ⊎ (id ≢ element.id) → standing id queue.bag + offers_of id (inserts element) ≡ 0 + standing id (map.insert queue.bag element.id element)
    by_id (inl same) =
        let test : nat_eq element.id id ≡ true = grind (arith, nat_tests) in
        let one : bit (nat_eq element.id id) ≡ 1 = ap bit test in
        let before : standing id queue.bag ≡ 0 = ap (λ (o : Option Element). bit (is_some o)) (ap (map.get queue.bag) (same ∙ fits) ∙ next_absent queue.bag queue.next_id below) in
        let after : standing id (map.insert queue.bag element.id element) ≡ 1 = ap (λ (o : Option Element). bit (is_some o)) (ap (map.get (map.insert queue.bag element.id element)) same ∙ get_inserted_same queue.bag element.id element) in
        omega (arith, offers, one, before, after)
    by_id (inr differ) =
        let test : nat_eq element.id id ≡ false = grind (arith, nat_tests) in
        let none : bit (nat_eq element.id id) ≡ 0 = ap bit test in
        let same : standing id (map.insert queue.bag element.id element) ≡ standing id queue.bag = ap (λ (o : Option Element). bit (is_some o)) (get_inserted_other queue.bag element.id id element differ) in
        omega (arith, offers, none, same)
standing_after queue (gives ids) id fits below = let all = standing_without queue.bag id ids fits in omega (arith, all)
standing_after queue (removes ids) id fits below = let all = standing_without queue.bag id ids fits in omega (arith, all)
standing_after queue empties id fits below =
    let none : standing id (map.empty {K = ℕ} {X = Element} {R = nat_cmp}) ≡ 0 = ap (λ (o : Option Element). bit (is_some o)) (get-empty {X = Element} nat_cmp id) in
    omega (arith, none)

len_removed : (bag : Bag) (id : ℕ) → IsSome (map.get bag id) → map.len (map.remove bag id) + 1 ≡ map.len bag
len_removed bag id present =
    let left : map.len (map.remove bag id) ≡ map.len bag - 1 = len-remove nat_cmp_total bag id ∙ ap (λ b. cond b (map.len bag - 1) (map.len bag)) present in
    let some = positive (map.len bag) refl in
    omega (arith, left, some)
  where
    positive : (n : ℕ) → map.len bag ≡ n → 0 < n
    positive zero none =
        let gone : is_some (map.get bag id) ≡ false = ap (λ b. is_some (map.get b id)) (map.empty_of_len bag none) ∙ ap is_some (get-empty {X = Element} nat_cmp id) in absurd (cc)
    positive (suc n) some = omega arith

len_without : (bag : Bag) (ids : List ℕ) → AreTaken bag ids → map.len bag ≡ length ids + map.len (without bag ids)
len_without bag [] taken = omega arith
len_without bag (id ∷ ids) taken =
    let here = len_removed bag id taken.0 in
    let rest = len_without (map.remove bag id) ids taken.1 in
    omega (arith, here, rest)

-- What stood or came in leaves or stands: in numbers.
pub len_after : (queue : Queue) (effect : Effect) → FitsIn queue effect → AreBelow queue.bag queue.next_id
    → map.len queue.bag + length (inserted effect) ≡ length (given effect) + length (removed effect) + cleared effect (map.len queue.bag) + map.len (queue_after queue effect).bag
len_after queue (inserts element) fits below =
    let absent : map.get queue.bag element.id ≡ None = ap (map.get queue.bag) fits ∙ next_absent queue.bag queue.next_id below in
    let more : map.len (map.insert queue.bag element.id element) ≡ map.len queue.bag + 1 = len-insert nat_cmp_total queue.bag element.id element
    ∙ ap (λ (o : Option Element). cond (is_some o) (map.len queue.bag) (map.len queue.bag + 1)) absent in
    omega (arith, more)
len_after queue (gives ids) fits below = let all = len_without queue.bag ids fits in omega (arith, all)
len_after queue (removes ids) fits below = let all = len_without queue.bag ids fits in omega (arith, all)
len_after queue empties fits below = let none = len-empty nat_cmp Element in omega (arith, none)
