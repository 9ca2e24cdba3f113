-- What the tests of an act find.
use Rattle.std.proofs.Common.{◌≡◌, ℕ, suc, ◌+◌, ◌↔◌, ◌<◌, ◌≤◌, List, [], ◌∷◌, ◌++◌, length, take, drop, get_or, refl, sym, ap, subst, ◌∙◌, arith, Bool, Option, Some, None, Result, Ok, Err, inl, inr, nat_eq}
use Rattle.std.proofs.lemmas.Bool.Decides.{nat_tests}
use Rattle.std.proofs.lemmas.List.{take_more, take_all, take-append-drop}
use Rattle.std.proofs.Math.Seq.{drop-cons}
use Rattle.std.specs.Prelude.{IfSome, IsTrue, is_some, unwrap_or}
use Rattle.std.specs.Ordering.{nat_cmp}
use Rattle.std.specs.FinMap as map
use Rattle.std.specs.FinMap.{get-empty, empty_of_len, len-empty}
use Rattle.rb_delayed.specs.declared.element.Element.{Element}
use Rattle.rb_delayed.specs.Moment.{IsExpired}
use Rattle.rb_queue.specs.Bag.{Bag, NoneExpired, without}
use Rattle.rb_queue.specs.Head.{IsLeast, IsHeadId, IsNextExpiry}
use Rattle.rb_queue.specs.Queue.{Queue}
use Rattle.rb_queue.specs.Calls.{AreHeads, Acts}
use Rattle.rb_queue.specs.declared.act.Act.TheVariants as acts
use Rattle.rb_queue.proofs.Options.{at_value, has_and, value_and, of_each}
use Rattle.rb_replay.specs.declared.reason.Reason.{Reason}
use Rattle.rb_replay.specs.declared.reason.Reason.TheVariants.{NotNone, NotAll}
use Rattle.rb_replay.specs.declared.judge.JudgeFault.{JudgeFault}
use Rattle.rb_replay.specs.declared.judge.JudgeFault.TheVariants.{Refused, Memory}
use Rattle.rb_replay.specs.Refusal.{Test, NoTest, HeadTests, DrainTests}
use Rattle.rb_replay.specs.Judging.{Passes, Judges, Gave}

-- an element that expires no later than the least is least
pub found_least : (bag : Bag) (id : ℕ) (element : Element) (next : Option ℕ) (least : ℕ) → Some element ≡ map.get bag id → element.id ≡ id
    → IsNextExpiry bag next → least ≡ unwrap_or next element.expiry → element.expiry ≤ least → IsLeast bag element
found_least bag id element None least is named empty last up =
    let none : map.get bag id ≡ None = ap (λ b. map.get b id) empty ∙ get-empty nat_cmp id in
    absurd (cc)
found_least bag id element (Some expiry) least is named (first, leads, same) last up = record {
  present = ap (map.get bag) named ∙ sym is;
  least = λ other. of_each (map.get bag other) (λ o. element.expiry ≤ o.expiry) (λ o there.
      let first_least : first.expiry ≤ o.expiry = at_value (map.get bag other) (λ e. first.expiry ≤ e.expiry) o there (leads.least other) in
      omega (arith, first_least, same, last, up));
}

-- nothing is expired in an empty bag
pub none_in_empty : (bag : Bag) (now : ℕ) → bag ≡ map.empty → NoneExpired bag now
none_in_empty bag now empty = λ id.
    subst (λ o. IfSome o (λ (element : Element). ¬ IsExpired element.expiry now)) (sym (ap (λ b. map.get b id) empty ∙ get-empty nat_cmp id)) tt

-- a bag is empty exactly where it has no element
pub empties_by_size : {X : Type 0} (queue : Queue) (now size : ℕ) (r : Result X JudgeFault) → size ≡ map.len queue.bag
    → Passes (λ _. IsTrue (nat_eq size 0)) (Test (IsTrue (nat_eq size 0)) NotNone NoTest) r → Judges queue now (acts.Peek None) r queue
empties_by_size queue now size (Ok x) counted zero =
    record { permitted = empty_of_len queue.bag (sym counted ∙ grind (arith, nat_tests)); after = refl }
empties_by_size queue now size (Err (Refused reason)) counted (inl (some, is)) =
    inl (λ empty. some (none empty), is)
  where
    none : queue.bag ≡ map.empty → IsTrue (nat_eq size 0)
    none empty = let zero : size ≡ 0 = counted ∙ ap map.len empty ∙ len-empty nat_cmp Element in grind (arith, nat_tests)
empties_by_size queue now size (Err (Refused reason)) counted (inr (zero, none)) = absurd none
empties_by_size queue now size (Err Memory) counted h = absurd h

-- heads behind heads
pub AreHeads-append : (bag : Bag) (now : ℕ) (ids : List ℕ) (id : ℕ) → AreHeads bag now ids → IsHeadId (without bag ids) now id → AreHeads bag now (ids ++ id ∷ [])
AreHeads-append bag now [] id heads head = (head, tt)
AreHeads-append bag now (first ∷ ids) id heads head = (heads.0, AreHeads-append (map.remove bag first) now ids id heads.1 head)

pub without-append : (bag : Bag) (ids : List ℕ) (id : ℕ) → without bag (ids ++ id ∷ []) ≡ map.remove (without bag ids) id
without-append bag [] id = refl
without-append bag (first ∷ ids) id = without-append (map.remove bag first) ids id

-- a test that fails is the first that fails, whatever comes behind it
later_tests : (bag : Bag) (now id : ℕ) (others : Reason → Type 0) (reason : Reason) → HeadTests bag now id NoTest reason → HeadTests bag now id others reason
later_tests bag now id others reason (inl h) = inl h
later_tests bag now id others reason (inr (there, inl h)) = inr (there, inl h)
later_tests bag now id others reason (inr (there, inr (least, inl h))) = inr (there, inr (least, inl h))
later_tests bag now id others reason (inr (there, inr (least, inr (head, none)))) = absurd none

-- a head passes its tests
passed : (bag : Bag) (now id : ℕ) (others : Reason → Type 0) (reason : Reason) → IsHeadId bag now id → others reason → HeadTests bag now id others reason
passed bag now id others reason head rest =
    let (element, is, fact) = value_and (map.get bag id) _ head in
    inr (ap is_some is, inr (has_and (map.get bag id) (IsLeast bag) element is fact.least, inr (head, rest)))

-- the first drained id that is no head's
drain_breaks : (bag : Bag) (now : ℕ) (fewer : Type 0) (front : List ℕ) (id : ℕ) (behind : List ℕ) (reason : Reason) → AreHeads bag now front
    → HeadTests (without bag front) now id NoTest reason → DrainTests bag now fewer (front ++ id ∷ behind) reason
drain_breaks bag now fewer [] id behind reason heads fails = later_tests bag now id (DrainTests (map.remove bag id) now fewer behind) reason fails
drain_breaks bag now fewer (first ∷ front) id behind reason heads fails = passed bag now first (DrainTests (map.remove bag first) now fewer (front ++ id ∷ behind)) reason heads.0
    (drain_breaks (map.remove bag first) now fewer front id behind reason heads.1 fails)

-- all ids are heads', and the last test is left
drain_ends : (bag : Bag) (now : ℕ) (fewer : Type 0) (ids : List ℕ) (reason : Reason) → AreHeads bag now ids
    → DrainTests (without bag ids) now fewer [] reason → DrainTests bag now fewer ids reason
drain_ends bag now fewer [] reason heads fails = fails
drain_ends bag now fewer (id ∷ ids) reason heads fails =
    passed bag now id (DrainTests (map.remove bag id) now fewer ids) reason heads.0 (drain_ends (map.remove bag id) now fewer ids reason heads.1 fails)

-- what is known after some of the ids were given
pub record Drained (old mid : Queue) (now : ℕ) (ids : List ℕ) : Type 0 where
  pub heads : AreHeads old.bag now ids
  pub left : mid ≡ record old { bag = without old.bag ids }

pub drained_more : (old mid new : Queue) (now : ℕ) (ids : List ℕ) (i id : ℕ) → i < length ids → id ≡ get_or ids i id
    → Drained old mid now (take i ids) → Gave mid now id new → Drained old new now (take (i + 1) ids)
drained_more old mid new now ids i id within is so_far gave =
    let more : take (i + 1) ids ≡ take i ids ++ id ∷ [] = take_more ids i id within ∙ ap (λ x. take i ids ++ x ∷ []) (sym is) in
    let head : IsHeadId (without old.bag (take i ids)) now id = subst (λ (q : Queue). IsHeadId q.bag now id) so_far.left gave.head in
    subst (λ front. Drained old new now front) (sym more) (record {
      heads = AreHeads-append old.bag now (take i ids) id so_far.heads head;
      left = gave.after ∙ ap (λ (q : Queue). record q { bag = map.remove q.bag id }) so_far.left
          ∙ (λ k. record old { bag = sym (without-append old.bag (take i ids) id) k });
    })

-- an id was no head's
pub drain_fails : (old mid new : Queue) (now max : ℕ) (ids : List ℕ) (i id : ℕ) (fault : JudgeFault)
    → length ids ≤ max → i < length ids → id ≡ get_or ids i id → Drained old mid now (take i ids)
    → Passes {X = Unit {0}} (λ _. Unit {0}) (HeadTests mid.bag now id NoTest) (Err fault) → Judges {X = Unit {0}} old now (acts.Drain max ids) (Err fault) new
drain_fails old mid new now max ids i id Memory few within is so_far fails = absurd fails
drain_fails old mid new now max ids i id (Refused reason) few within is so_far fails =
    let split : take i ids ++ id ∷ drop (suc i) ids ≡ ids =
    ap (λ x. take i ids ++ x ∷ drop (suc i) ids) is ∙ ap (λ t. take i ids ++ t) (sym (drop-cons ids i id within)) ∙ take-append-drop i ids in
    let here : HeadTests (without old.bag (take i ids)) now id NoTest reason = subst (λ (q : Queue). HeadTests q.bag now id NoTest reason) so_far.left fails in
    inr (
      few,
      subst (λ all. DrainTests old.bag now (length ids < max) all reason) split
          (drain_breaks old.bag now (length ids < max) (take i ids) id (drop (suc i) ids) reason so_far.heads here),
    )

-- all were heads'
pub drain_done : (old mid : Queue) (now max n : ℕ) (ids : List ℕ) → length ids ≤ max → length ids ≤ n → Drained old mid now (take n ids)
    → (length ids < max → NoneExpired mid.bag now) → Acts old now (acts.Drain max ids) mid
drain_done old mid now max n ids few all so_far none =
    let drained : Drained old mid now ids = subst (λ front. Drained old mid now front) (take_all n ids all) so_far in
    record {
      permitted = record {
        heads = drained.heads;
        at_most = few;
        all = λ fewer. subst (λ (q : Queue). NoneExpired q.bag now) drained.left (none fewer);
      };
      after = drained.left;
    }

pub drain_last : {X : Type 0} (old mid : Queue) (now max n : ℕ) (ids : List ℕ) (none : Bool) (r : Result X JudgeFault)
    → length ids ≤ max → length ids ≤ n → length ids < max → Drained old mid now (take n ids) → IsTrue none ↔ NoneExpired mid.bag now
    → Passes (λ _. IsTrue none) (Test (IsTrue none) NotAll NoTest) r → Judges old now (acts.Drain max ids) r mid
drain_last old mid now max n ids none (Ok x) few all fewer so_far says holds = drain_done old mid now max n ids few all so_far (λ _. says.0 holds)
drain_last old mid now max n ids none (Err Memory) few all fewer so_far says fails = absurd fails
drain_last old mid now max n ids none (Err (Refused reason)) few all fewer so_far says (inr (holds, fails)) = absurd fails
drain_last old mid now max n ids none (Err (Refused reason)) few all fewer so_far says (inl (off, is)) =
    let drained : Drained old mid now ids = subst (λ front. Drained old mid now front) (take_all n ids all) so_far in
    let some : ¬ NoneExpired (without old.bag ids) now = λ h. off (says.1 (subst (λ (q : Queue). NoneExpired q.bag now) (sym drained.left) h)) in
    inr (few, drain_ends old.bag now (length ids < max) ids reason drained.heads (inl (λ h. some (h fewer), is)))
