-- What an event that offers nothing takes out of the queue, and what it hands out.
use Rattle.std.proofs.Common.{◌≡◌, ◌≢◌, ℕ, ◌<◌, ◌≤◌, ◌⊎◌, inl, inr, List, [], ◌∷◌, ◌++◌, refl, sym, ap, ap₂, subst, ◌∙◌, arith, Bool, true, false, Option, Some, None}
use Rattle.std.proofs.lemmas.Bool.Decides.{nat_tests}
use Rattle.std.proofs.lemmas.Option.{same_Some}
use Rattle.std.specs.Prelude.{IsSome, is_some, nat_eq, option_map, option_and_then}
use Rattle.std.specs.List.{filter_map, cons_option}
use Rattle.std.specs.FinMap as map
use Rattle.std.specs.FinMap.{get-empty}
use Rattle.std.specs.Ordering.{nat_cmp}
use Rattle.rb_delayed.specs.declared.element.Element.{Element}
use Rattle.rb_queue.specs.Bag.{Bag, bag_from, without}
use Rattle.rb_queue.specs.Queue.{Queue}
use Rattle.rb_queue.specs.Calls.{Permits}
use Rattle.rb_queue.specs.Effect.{Effect, inserts, gives, removes, empties, effect_of, queue_after, inserted, given}
use Rattle.rb_queue.specs.Leaving.{times}
use Rattle.rb_queue.specs.Opening.{ids_of}
use Rattle.rb_queue.specs.Replies.{elements_in, reply_in}
use Rattle.rb_queue.specs.declared.act.Act.{Act}
use Rattle.rb_queue.specs.declared.act.Act.TheVariants as acts
use Rattle.rb_queue.specs.declared.reply.Reply.{Reply}
use Rattle.rb_queue.specs.declared.reply.Reply.TheVariants as replies
use Rattle.rb_queue.proofs.Bags.{get_inserted_same, get_inserted_other, get_removed_same, get_removed_other}
use Rattle.rb_queue.proofs.Drains.{without_kept}
use Rattle.rb_queue.proofs.Effects.{AreTaken, bit, permitted_fits, times_cons}
use Rattle.rb_queue.proofs.OfferedElements.{IsWithin}
use Rattle.rb_queue.proofs.Options.{same_or_not, value_and}
use Rattle.rb_retry.specs.declared.policy.Policy.{Policy}
use Rattle.rb_jobs.specs.HeldIds.{AreHeldOnce}
use Rattle.rb_jobs.specs.Among.{IsAmong}
use Rattle.rb_jobs.specs.Hands.{Handles, reply_elements}
use Rattle.rb_jobs.proofs.Lists.{among_times, among_has, has_id}

-- the element is in the bag, under its id
abbrev pub Stands : Bag → Element → Type 0
Stands bag element = map.get bag element.id ≡ Some element

-- each element of the bag is under its id
abbrev pub IsNamed : Bag → Type 0
IsNamed bag = (id : ℕ) (element : Element) → map.get bag id ≡ Some element → element.id ≡ id

pub named_inserted : (bag : Bag) (new : Element) → IsNamed bag → IsNamed (map.insert bag new.id new)
named_inserted bag new named id element found = by_id (same_or_not id new.id)
  where
    by_id : (id ≡ new.id) ⊎ (id ≢ new.id) → element.id ≡ id
    by_id (inl same) =
        let is : Some new ≡ Some element =
        sym (get_inserted_same bag new.id new) ∙ sym (ap (map.get (map.insert bag new.id new)) same) ∙ found in
        ap (λ (e : Element). e.id) (sym (same_Some new element is)) ∙ sym same
    by_id (inr differ) = named id element (sym (get_inserted_other bag new.id id new differ) ∙ found)

pub named_from : (elements : List Element) → IsNamed (bag_from elements)
named_from [] id element found = let none = get-empty {X = Element} nat_cmp id in absurd (cc)
named_from (first ∷ elements) id element found =
    named_inserted (bag_from elements) first (named_from elements) id element found

pub named_after : (queue : Queue) (effect : Effect) → IsNamed queue.bag → IsNamed (queue_after queue effect).bag
named_after queue (inserts element) named = named_inserted queue.bag element named
named_after queue (gives ids) named = λ id element found. named id element (without_kept queue.bag ids id element found)
named_after queue (removes ids) named = λ id element found. named id element (without_kept queue.bag ids id element found)
named_after queue empties named = λ id element found. let none = get-empty {X = Element} nat_cmp id in absurd (cc)

-- what is removed is there no more
removed_gone : (bag : Bag) (id : ℕ) (element : Element) → map.get (map.remove bag id) id ≡ Some element → ⊥
removed_gone bag id element found = let none = get_removed_same bag id in absurd (cc)

-- an id that is taken was there, and is taken once
taken_in : (bag : Bag) (ids : List ℕ) (id : ℕ) → AreTaken bag ids → 0 < times id ids → IsSome (map.get bag id)
taken_in bag [] id taken some = absurd (omega (arith, some))
taken_in bag (first ∷ ids) id taken some = by_id (same_or_not id first) (taken_in (map.remove bag first) ids id taken.1)
  where
    by_id : (id ≡ first) ⊎ (id ≢ first) → (0 < times id ids → IsSome (map.get (map.remove bag first) id))
        → IsSome (map.get bag id)
    by_id (inl same) later = ap (λ i. is_some (map.get bag i)) same ∙ taken.0
    by_id (inr differ) later =
        let test : nat_eq first id ≡ false = grind (arith, nat_tests) in
        sym (ap is_some (get_removed_other bag first id differ))
        ∙ later (omega (arith, some, times_cons id first ids, ap bit test))

taken_once : (bag : Bag) (ids : List ℕ) → AreTaken bag ids → (id : ℕ) → times id ids ≤ 1
taken_once bag [] taken id = omega arith
taken_once bag (first ∷ ids) taken id =
    by_id (same_or_not id first) (same_or_not (times id ids) 0) (taken_once (map.remove bag first) ids taken.1 id)
  where
    by_id : (id ≡ first) ⊎ (id ≢ first) → (times id ids ≡ 0) ⊎ (times id ids ≢ 0) → times id ids ≤ 1
        → times id (first ∷ ids) ≤ 1
    by_id (inl same) (inl none) few =
        let test : nat_eq first id ≡ true = grind (arith, nat_tests) in
        omega (arith, none, times_cons id first ids, ap bit test)
    by_id (inl same) (inr some) few =
        let there = taken_in (map.remove bag first) ids id taken.1 (omega (arith, some)) in
        let gone : is_some (map.get (map.remove bag first) id) ≡ false =
        ap is_some (ap (map.get (map.remove bag first)) same ∙ get_removed_same bag first) in
        absurd (cc)
    by_id (inr differ) either few =
        let test : nat_eq first id ≡ false = grind (arith, nat_tests) in
        omega (arith, few, times_cons id first ids, ap bit test)

taken_gone : (bag : Bag) (ids : List ℕ) (id : ℕ) (element : Element) → 0 < times id ids
    → map.get (without bag ids) id ≡ Some element → ⊥
taken_gone bag [] id element some found = absurd (omega (arith, some))
taken_gone bag (first ∷ ids) id element some found =
    by_id (same_or_not id first) (λ more. taken_gone (map.remove bag first) ids id element more found)
  where
    by_id : (id ≡ first) ⊎ (id ≢ first) → (0 < times id ids → ⊥) → ⊥
    by_id (inl same) later =
        removed_gone bag first element (ap (map.get (map.remove bag first)) (sym same)
        ∙ without_kept (map.remove bag first) ids id element found)
    by_id (inr differ) later =
        let test : nat_eq first id ≡ false = grind (arith, nat_tests) in
        later (omega (arith, some, times_cons id first ids, ap bit test))

-- elements that stand are found under their ids
pub found_all : (bag : Bag) (elements : List Element) → ((element : Element) → IsAmong element elements → Stands bag element)
    → elements_in bag (ids_of elements) ≡ Some elements
found_all bag [] stand = refl
found_all bag (first ∷ elements) stand =
    ap (option_and_then (λ (e : Element). option_map (λ (r : List Element). e ∷ r) (elements_in bag (ids_of elements))))
    (stand first (inl refl))
    ∙ ap (option_map (λ (r : List Element). first ∷ r)) (found_all bag elements (λ element among. stand element (inr among)))

pub mapped_all : (all : Bag) (elements : List Element) → ((element : Element) → IsAmong element elements → Stands all element)
    → filter_map (map.get all) (ids_of elements) ≡ elements
mapped_all all [] stand = refl
mapped_all all (first ∷ elements) stand =
    ap₂ cons_option (stand first (inl refl)) (mapped_all all elements (λ element among. stand element (inr among)))

-- the elements under the ids that are taken
pub record Taken (bag : Bag) (ids : List ℕ) : Type 0 where
  pub elements : List Element
  pub named : ids_of elements ≡ ids
  pub stand : (element : Element) → IsAmong element elements → Stands bag element

some_value : (bag : Bag) (id : ℕ) → IsSome (map.get bag id) → (element : Element) × (map.get bag id ≡ Some element)
some_value bag id there = of_value (map.get bag id) there
  where
    of_value : (o : Option Element) → IsSome o → (element : Element) × (o ≡ Some element)
    of_value None none = absurd (cc)
    of_value (Some element) some = (element, refl)

pub elements_taken : (bag : Bag) (ids : List ℕ) → IsNamed bag → AreTaken bag ids → Taken bag ids
elements_taken bag [] named taken = record { elements = []; named = refl; stand = λ element among. absurd among }
elements_taken bag (id ∷ ids) named taken =
    let (first, found) = some_value bag id taken.0 in
    let rest = elements_taken (map.remove bag id) ids (λ i e there. by_id i e there (same_or_not i id)) taken.1 in record {
      elements = first ∷ rest.elements;
      named = ap₂ (λ (i : ℕ) (is : List ℕ). i ∷ is) (named id first found) rest.named;
      stand = λ element among. stands first found rest element among;
    }
  where
    by_id : (i : ℕ) (e : Element) → map.get (map.remove bag id) i ≡ Some e → (i ≡ id) ⊎ (i ≢ id) → e.id ≡ i
    by_id i e there (inl same) = absurd (removed_gone bag id e (ap (map.get (map.remove bag id)) (sym same) ∙ there))
    by_id i e there (inr differ) = named i e (sym (get_removed_other bag id i differ) ∙ there)

    there_before : (element : Element) → Stands (map.remove bag id) element → (element.id ≡ id) ⊎ (element.id ≢ id)
        → Stands bag element
    there_before element there (inl same) =
        absurd (removed_gone bag id element (ap (map.get (map.remove bag id)) (sym same) ∙ there))
    there_before element there (inr differ) = sym (get_removed_other bag id element.id differ) ∙ there

    stands : (first : Element) → map.get bag id ≡ Some first → (rest : Taken (map.remove bag id) ids) → (element : Element)
        → IsAmong element (first ∷ rest.elements) → Stands bag element
    stands first found rest element (inl is) =
        subst (Stands bag) (sym is) (ap (map.get bag) (named id first found) ∙ found)
    stands first found rest element (inr later) =
        there_before element (rest.stand element later) (same_or_not element.id id)

-- the element that a reply says to be offered
abbrev pub offered_by : Option Reply → List Element
offered_by (Some (replies.Offered element)) = element ∷ []
offered_by _ = []

-- An act that offers nothing: these elements are handed out by its reply, and leave. Nothing comes in.
pub record Leaves (queue : Queue) (all : Bag) (act : Act) : Type 1 where
  pub elements : List Element
  pub stand : (element : Element) → IsAmong element elements → Stands queue.bag element
  pub once : AreHeldOnce elements
  pub left : (element : Element) → Stands (queue_after queue (effect_of act)).bag element
      → Stands queue.bag element × (has_id element.id elements ≡ false)
  pub ids : given (effect_of act) ≡ ids_of elements
  pub given : filter_map (map.get all) (given (effect_of act)) ≡ elements
  pub none_in : inserted (effect_of act) ≡ []
  pub next : (queue_after queue (effect_of act)).next_id ≡ queue.next_id
  pub reply : Reply
  pub told : reply_in queue.bag act ≡ Some reply
  pub quiet : offered_by (Some reply) ≡ []
  pub hands : reply_elements (Some reply) ≡ elements
  pub plain : (policy : Policy) (held : List Element) (moment : ℕ) (between : List Element)
      → Handles policy held moment (Some reply) between → between ≡ held ++ elements

-- an act that gives elements which stand
module _ (queue : Queue) (all : Bag) (within : IsWithin queue.bag all) where
  has_none : (id : ℕ) (elements : List Element) → AreTaken queue.bag (ids_of elements) → (element : Element)
      → map.get (without queue.bag (ids_of elements)) element.id ≡ Some element → (test : Bool)
      → has_id element.id elements ≡ test → test ≡ false
  has_none id elements taken element there true has =
      let (other, among, same) = among_has element.id elements has in
      absurd (taken_gone queue.bag (ids_of elements) element.id element
      (subst (λ i. 0 < times i (ids_of elements)) same (among_times other elements among)) there)
  has_none id elements taken element there false has = refl

  pub leaves_given : (act : Act) (elements : List Element) → effect_of act ≡ gives (ids_of elements)
      → ((element : Element) → IsAmong element elements → Stands queue.bag element)
      → AreTaken queue.bag (ids_of elements) → (reply : Reply) → reply_in queue.bag act ≡ Some reply
      → offered_by (Some reply) ≡ [] → reply_elements (Some reply) ≡ elements
      → ((policy : Policy) (held : List Element) (moment : ℕ) (between : List Element)
      → Handles policy held moment (Some reply) between → between ≡ held ++ elements)
      → Leaves queue all act
  leaves_given act elements is stand taken reply told quiet hands plain = record {
    elements = elements;
    stand = stand;
    once = λ id. taken_once queue.bag (ids_of elements) taken id;
    left = λ element there. left element
        (subst (λ (effect : Effect). Stands (queue_after queue effect).bag element) is there);
    given = ap (λ (effect : Effect). filter_map (map.get all) (given effect)) is
        ∙ mapped_all all elements (λ element among. within element.id element (stand element among));
    none_in = ap inserted is;
    next = ap (λ (effect : Effect). (queue_after queue effect).next_id) is;
    reply = reply;
    told = told;
    ids = ap given is;
    quiet = quiet;
    hands = hands;
    plain = plain;
  }
    where
      left : (element : Element) → Stands (without queue.bag (ids_of elements)) element
          → Stands queue.bag element × (has_id element.id elements ≡ false)
      left element there = (
        without_kept queue.bag (ids_of elements) element.id element there,
        has_none element.id elements taken element there (has_id element.id elements) refl,
      )

  -- nothing is given
  leaves_none : (act : Act) → effect_of act ≡ gives [] → (reply : Reply) → reply_in queue.bag act ≡ Some reply
      → offered_by (Some reply) ≡ [] → reply_elements (Some reply) ≡ [] → ((policy : Policy) (held : List Element) (moment : ℕ) (between : List Element)
      → Handles policy held moment (Some reply) between → between ≡ held ++ []) → Leaves queue all act
  leaves_none act is reply told quiet hands plain =
      leaves_given act [] is (λ element among. absurd among) tt reply told quiet hands plain

  -- the element of this id is given
  leaves_one : IsNamed queue.bag → (act : Act) (id : ℕ) → effect_of act ≡ gives (id ∷ [])
      → reply_in queue.bag act ≡ option_map replies.Item (map.get queue.bag id) → IsSome (map.get queue.bag id)
      → Leaves queue all act
  leaves_one named act id is told there =
      let (element, found) = some_value queue.bag id there in
      let same : element.id ≡ id = named id element found in
      leaves_given act (element ∷ []) (is ∙ ap (λ (i : ℕ). gives (i ∷ [])) (sym same))
      (λ other among. one element (ap (map.get queue.bag) same ∙ found) other among)
      (subst (λ i. IsSome (map.get queue.bag i)) (sym same) there, tt)
      (replies.Item element) (told ∙ ap (option_map replies.Item) found) refl refl
      (λ policy held moment between handles. handles)
    where
      one : (element : Element) → Stands queue.bag element → (other : Element) → IsAmong other (element ∷ [])
          → Stands queue.bag other
      one element stands other (inl same) = subst (Stands queue.bag) (sym same) stands
      one element stands other (inr none) = absurd none

  -- what is removed or cleared away is not given
  leaves_away : (act : Act) (reply : Reply) → given (effect_of act) ≡ [] → inserted (effect_of act) ≡ []
      → (queue_after queue (effect_of act)).next_id ≡ queue.next_id
      → ((element : Element) → Stands (queue_after queue (effect_of act)).bag element → Stands queue.bag element)
      → reply_in queue.bag act ≡ Some reply → offered_by (Some reply) ≡ [] → reply_elements (Some reply) ≡ []
      → ((policy : Policy) (held : List Element) (moment : ℕ) (between : List Element)
      → Handles policy held moment (Some reply) between → between ≡ held ++ []) → Leaves queue all act
  leaves_away act reply none none_in next left told quiet hands plain = record {
    elements = [];
    stand = λ element among. absurd among;
    once = λ id. omega arith;
    left = λ element there. (left element there, refl);
    given = ap (filter_map (map.get all)) none;
    none_in = none_in;
    next = next;
    reply = reply;
    told = told;
    ids = none;
    quiet = quiet;
    hands = hands;
    plain = plain;
  }

  -- an act that is permitted offers an element, or is such a one
  pub leaves_by : IsNamed queue.bag → (now : ℕ) (act : Act) → Permits queue now act
      → ((element : Element) × (act ≡ acts.Offer element)) ⊎ Leaves queue all act
  leaves_by named now (acts.Offer element) permits = inl (element, refl)
  leaves_by named now (acts.Poll None) permits =
      inr (leaves_none (acts.Poll None) refl replies.Nothing refl refl refl (λ policy held moment between handles. handles))
  leaves_by named now (acts.Poll (Some id)) permits =
      inr (leaves_one named (acts.Poll (Some id)) id refl refl
      (permitted_fits queue now (acts.Poll (Some id)) permits).0)
  leaves_by named now (acts.Take id) permits =
      inr (leaves_one named (acts.Take id) id refl refl (permitted_fits queue now (acts.Take id) permits).0)
  leaves_by named now (acts.PollFor start timeout None) permits =
      inr (leaves_none (acts.PollFor start timeout None) refl replies.Nothing refl refl refl
      (λ policy held moment between handles. handles))
  leaves_by named now (acts.PollFor start timeout (Some id)) permits =
      inr (leaves_one named (acts.PollFor start timeout (Some id)) id refl refl
      (permitted_fits queue now (acts.PollFor start timeout (Some id)) permits).0)
  leaves_by named now (acts.Peek None) permits =
      inr (leaves_none (acts.Peek None) refl replies.Nothing refl refl refl (λ policy held moment between handles. handles))
  leaves_by named now (acts.Peek (Some id)) permits =
      let (element, is, least) = value_and _ _ permits in
      inr (leaves_none (acts.Peek (Some id)) refl (replies.Head element) (ap (option_map replies.Head) is) refl refl
      (λ policy held moment between handles. handles))
  leaves_by named now (acts.Remove id true) permits =
      inr (leaves_away (acts.Remove id true) (replies.Removed true) refl refl refl
      (λ element there. without_kept queue.bag (id ∷ []) element.id element there) refl refl refl
      (λ policy held moment between handles. handles))
  leaves_by named now (acts.Remove id false) permits =
      inr (leaves_away (acts.Remove id false) (replies.Removed false) refl refl refl (λ element there. there) refl refl refl
      (λ policy held moment between handles. handles))
  leaves_by named now (acts.Drain most ids) permits =
      let taken = permitted_fits queue now (acts.Drain most ids) permits in
      let found = elements_taken queue.bag ids named taken in
      inr (leaves_given (acts.Drain most ids) found.elements (ap gives (sym found.named)) found.stand
      (subst (AreTaken queue.bag) (sym found.named) taken) (replies.Drained found.elements)
      (ap (λ (is : List ℕ). option_map replies.Drained (elements_in queue.bag is)) (sym found.named)
      ∙ ap (option_map replies.Drained) (found_all queue.bag found.elements found.stand)) refl refl
      (λ policy held moment between handles. handles))
  leaves_by named now acts.Clear permits =
      inr (leaves_away acts.Clear replies.Cleared refl refl refl
      (λ element there. let none = get-empty {X = Element} nat_cmp element.id in absurd (cc)) refl refl refl
      (λ policy held moment between handles. handles))
  leaves_by named now (acts.Size count) permits =
      inr (leaves_none (acts.Size count) refl (replies.Size count) refl refl refl (λ policy held moment between handles. handles))
