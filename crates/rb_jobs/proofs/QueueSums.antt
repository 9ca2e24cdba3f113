-- What stood in a queue or came in was handed out, removed or cleared away, or stands: by what each job counts for.
use Rattle.std.proofs.Common.{◌≡◌, ◌≢◌, ℕ, zero, suc, ◌+◌, ◌<◌, ◌⊎◌, inl, inr, List, [], ◌∷◌, None, refl, sym, ap, ◌∙◌, arith}
use Rattle.std.proofs.lemmas.List.Sums.{sum_by-cons}
use Rattle.std.specs.Prelude.{IsSome, is_some, sum_by}
use Rattle.std.specs.FinMap as map
use Rattle.std.specs.FinMap.{get-empty}
use Rattle.std.specs.Ordering.{nat_cmp}
use Rattle.rb_delayed.specs.declared.element.Element.{Element}
use Rattle.rb_queue.specs.Bag.{Bag, without}
use Rattle.rb_queue.specs.Effect.{Effect, inserts, gives, removes, empties, effect_of, queue_after, inserted, given, removed, cleared}
use Rattle.rb_queue.specs.Filing.{AreBelow}
use Rattle.rb_queue.specs.History.{State, state_after, state_from, AllowsAll}
use Rattle.rb_queue.specs.Queue.{Queue}
use Rattle.rb_queue.specs.declared.event.Event.{Event}
use Rattle.rb_queue.proofs.Bags.{get_inserted_same, get_inserted_other, get_removed_same, get_removed_other}
use Rattle.rb_queue.proofs.Effects.{AreTaken, FitsIn, below_after, permitted_fits}
use Rattle.rb_queue.proofs.Options.{same_or_not}
use Rattle.rb_jobs.specs.QueueSums.{amount_at, amount_of, cleared_sum_from, origins_sum, removed_sum_from, sum_below, waiting_sum}

-- sums of what is the same everywhere below, or but for one place
sum_same : (one other : ℕ → ℕ) (end : ℕ) → ((id : ℕ) → id < end → one id ≡ other id)
    → sum_below one end ≡ sum_below other end
sum_same one other zero same = refl
sum_same one other (suc end) same =
    omega (arith, sum_same one other end (λ id below. same id (omega (arith, below))), same end (omega arith))

sum_more : (at : ℕ → ℕ) (end : ℕ) → sum_below at (end + 1) ≡ sum_below at end + at end
sum_more at end = ap (sum_below at) (one_more end)
  where
    one_more : (end : ℕ) → end + 1 ≡ suc end
    one_more end = omega arith

sum_but_one : (one other : ℕ → ℕ) (place end : ℕ) → place < end → other place ≡ 0
    → ((id : ℕ) → id ≢ place → one id ≡ other id) → sum_below one end ≡ one place + sum_below other end
sum_but_one one other place zero below none same = absurd (omega (arith, below))
sum_but_one one other place (suc end) below none same = by_place (same_or_not end place)
    (λ before. sum_but_one one other place end before none same)
  where
    by_place : (end ≡ place) ⊎ (end ≢ place)
        → (place < end → sum_below one end ≡ one place + sum_below other end)
        → sum_below one (suc end) ≡ one place + sum_below other (suc end)
    by_place (inl is) later =
        omega (
          arith,
          sum_same one other end (λ id before. same id (λ equal. omega (arith, before, equal, is))),
          ap one is,
          ap other is,
          none,
        )
    by_place (inr differ) later = omega (arith, later (omega (arith, below, differ)), same end differ)

module _ (amount : ℕ → ℕ) where
  pub empty_sum : (bag : Bag) (end : ℕ) → ((id : ℕ) → map.get bag id ≡ None) → sum_below (amount_at amount bag) end ≡ 0
  empty_sum bag zero none = refl
  empty_sum bag (suc end) none = omega (arith, empty_sum bag end none, ap (amount_of amount) (none end))

  -- an element that comes in under an id below the end that stood for nothing
  pub sum_inserted : (bag : Bag) (element : Element) (end : ℕ) → element.id < end → map.get bag element.id ≡ None
      → sum_below (amount_at amount (map.insert bag element.id element)) end
      ≡ amount element.origin + sum_below (amount_at amount bag) end
  sum_inserted bag element end below none =
      omega (
        arith,
        sum_but_one (amount_at amount (map.insert bag element.id element)) (amount_at amount bag) element.id end below
            (ap (amount_of amount) none)
            (λ id differ. ap (amount_of amount) (get_inserted_other bag element.id id element differ)),
        ap (amount_of amount) (get_inserted_same bag element.id element),
      )

  -- an id that is taken out
  sum_removed : (bag : Bag) (id end : ℕ) → id < end
      → sum_below (amount_at amount bag) end ≡ amount_at amount bag id + sum_below (amount_at amount (map.remove bag id)) end
  sum_removed bag id end below =
      sum_but_one (amount_at amount bag) (amount_at amount (map.remove bag id)) id end below
      (ap (amount_of amount) (get_removed_same bag id))
      (λ other differ. ap (amount_of amount) (sym (get_removed_other bag id other differ)))

  -- what is there still counts as before
  pub same_removed : (bag : Bag) (id other : ℕ) → IsSome (map.get (map.remove bag id) other)
      → amount_at amount bag other ≡ amount_at amount (map.remove bag id) other
  same_removed bag id other there = by_id (same_or_not other id)
    where
      by_id : (other ≡ id) ⊎ (other ≢ id) → amount_at amount bag other ≡ amount_at amount (map.remove bag id) other
      by_id (inl same) =
          let gone = ap is_some (ap (map.get (map.remove bag id)) same ∙ get_removed_same bag id) in absurd (cc)
      by_id (inr differ) = ap (amount_of amount) (sym (get_removed_other bag id other differ))

  some_removed : (bag : Bag) (id other : ℕ) → IsSome (map.get (map.remove bag id) other) → IsSome (map.get bag other)
  some_removed bag id other there = by_id (same_or_not other id)
    where
      by_id : (other ≡ id) ⊎ (other ≢ id) → IsSome (map.get bag other)
      by_id (inl same) =
          let gone = ap is_some (ap (map.get (map.remove bag id)) same ∙ get_removed_same bag id) in absurd (cc)
      by_id (inr differ) = ap is_some (sym (get_removed_other bag id other differ)) ∙ there

  pub taken_same : (bag fewer : Bag) (ids : List ℕ)
      → ((id : ℕ) → IsSome (map.get fewer id) → amount_at amount bag id ≡ amount_at amount fewer id) → AreTaken fewer ids
      → sum_by (amount_at amount bag) ids ≡ sum_by (amount_at amount fewer) ids
  taken_same bag fewer [] same taken = refl
  taken_same bag fewer (id ∷ ids) same (there, taken) =
      omega (
        arith,
        same id there,
        taken_same bag (map.remove fewer id) ids
            (λ other some. same other (some_removed fewer id other some) ∙ same_removed fewer id other some) taken,
        taken_same fewer (map.remove fewer id) ids (λ other some. same_removed fewer id other some) taken,
        sum_by-cons (amount_at amount bag) id ids,
        sum_by-cons (amount_at amount fewer) id ids,
      )

  -- ids that are taken out, one after the other
  sum_without : (bag : Bag) (ids : List ℕ) (end : ℕ) → AreTaken bag ids → AreBelow bag end
      → sum_below (amount_at amount bag) end
      ≡ sum_by (amount_at amount bag) ids + sum_below (amount_at amount (without bag ids)) end
  sum_without bag [] end taken below = omega arith
  sum_without bag (id ∷ ids) end (there, taken) below =
      omega (
        arith,
        sum_removed bag id end (below.below id there),
        sum_without (map.remove bag id) ids end taken (below_removed bag id end below),
        taken_same bag (map.remove bag id) ids (λ other some. same_removed bag id other some) taken,
        sum_by-cons (amount_at amount bag) id ids,
      )
    where
      below_removed : (bag : Bag) (id end : ℕ) → AreBelow bag end → AreBelow (map.remove bag id) end
      below_removed bag id end below =
          record { below = λ other some. below.below other (some_removed bag id other some) }

  -- what stood or came in was given or removed, or cleared away, or stands
  sum_after : (queue : Queue) (effect : Effect) → FitsIn queue effect → AreBelow queue.bag queue.next_id
      → waiting_sum amount queue + origins_sum amount (inserted effect)
      ≡ sum_by (amount_at amount queue.bag) (given effect) + sum_by (amount_at amount queue.bag) (removed effect)
      + cleared effect (waiting_sum amount queue) + waiting_sum amount (queue_after queue effect)
  sum_after queue (inserts element) fits below =
      omega (
        arith,
        sum_more (amount_at amount (map.insert queue.bag element.id element)) queue.next_id,
        sum_same (amount_at amount (map.insert queue.bag element.id element)) (amount_at amount queue.bag) queue.next_id
            (λ id before. ap (amount_of amount) (get_inserted_other queue.bag element.id id element
            (λ same. omega (arith, before, same, fits)))),
        ap (amount_at amount (map.insert queue.bag element.id element)) (sym fits),
        ap (amount_of amount) (get_inserted_same queue.bag element.id element),
        sum_by-cons (λ (e : Element). amount e.origin) element [],
      )
  sum_after queue (gives ids) fits below =
      omega (arith, sum_without queue.bag ids queue.next_id fits below)
  sum_after queue (removes ids) fits below =
      omega (arith, sum_without queue.bag ids queue.next_id fits below)
  sum_after queue empties fits below =
      omega (arith, empty_sum (queue_after queue empties).bag queue.next_id (λ id. get-empty {X = Element} nat_cmp id))

  -- how much these events offer, and how much they give
  abbrev pub offered_sum : List Event → ℕ
  offered_sum events = sum_by (λ event. origins_sum amount (inserted (effect_of event.act))) events

  abbrev pub given_sum_from : State → List Event → ℕ
  given_sum_from state [] = 0
  given_sum_from state (event ∷ events) =
      sum_by (amount_at amount state.queue.bag) (given (effect_of event.act)) + given_sum_from (state_after state event) events

  pub sums_along : (from : State) (events : List Event) → AllowsAll from events
      → AreBelow from.queue.bag from.queue.next_id
      → waiting_sum amount from.queue + offered_sum events
      ≡ given_sum_from from events + removed_sum_from amount from events + cleared_sum_from amount from events
      + waiting_sum amount (state_from from events).queue
  sums_along from [] all below = omega arith
  sums_along from (event ∷ events) all below =
      let fits = permitted_fits from.queue event.at event.act all.0.act in
      omega (
        arith,
        sum_after from.queue (effect_of event.act) fits below,
        sums_along (state_after from event) events all.1 (below_after from.queue (effect_of event.act) fits below),
        sum_by-cons (λ (e : Event). origins_sum amount (inserted (effect_of e.act))) event events,
      )
