-- No job is begun twice, and none that was there is begun.
use Rattle.std.proofs.Common.{◌≡◌, ◌≢◌, ℕ, suc, ◌+◌, ◌<◌, ◌≤◌, ◌⊎◌, inl, inr, List, [], ◌∷◌, refl, sym, ap, ◌∙◌, arith, eq-eqb, ne_eqb}
use Rattle.std.proofs.lemmas.Bool.{cases_lt}
use Rattle.std.proofs.lemmas.List.Sums.{sum_by-cons}
use Rattle.std.specs.Prelude.{sum_by}
use Rattle.rb_delayed.specs.declared.element.Element.{Element}
use Rattle.rb_queue.specs.Effect.{Effect, inserts, gives, removes, empties, effect_of, queue_after}
use Rattle.rb_queue.specs.History.{IsLegal, State, start_of, state_after, AllowsAll}
use Rattle.rb_queue.specs.Leaving.{offers_of}
use Rattle.rb_queue.specs.Opening.{AreInOrder}
use Rattle.rb_queue.specs.Queue.{Queue}
use Rattle.rb_queue.specs.declared.event.Event.{Event}
use Rattle.rb_queue.specs.declared.opening.Opening.{Opening}
use Rattle.rb_queue.proofs.Effects.{FitsIn, bit, permitted_fits, times_cons}
use Rattle.rb_queue.proofs.Leavings.{is_offered_once}
use Rattle.rb_queue.proofs.Options.{same_or_not}
use Rattle.rb_jobs.specs.Among.{IsAmong}
use Rattle.rb_jobs.specs.JobSums.{only}
use Rattle.rb_jobs.specs.Places.{AreJobs}
use Rattle.rb_jobs.specs.QueueSums.{origins_sum}
use Rattle.rb_jobs.proofs.Gifts.{Stands}
use Rattle.rb_jobs.proofs.Histories.{among_stands, place_among, rest_order}

-- how often these events offer an id
abbrev pub offer_sum : ℕ → List Event → ℕ
offer_sum id events = sum_by (λ event. offers_of id (effect_of event.act)) events

-- an id below the next one is not offered
not_offered : (queue : Queue) (effect : Effect) (id : ℕ) → FitsIn queue effect → id < queue.next_id
    → (offers_of id effect ≡ 0) × (id < (queue_after queue effect).next_id)
not_offered queue (inserts element) id fits before = (
  omega (arith, times_cons id element.id [], ap bit (ne_eqb element.id id (λ same. omega (arith, same, fits, before)))),
  omega (arith, before),
)
not_offered queue (gives ids) id fits before = (refl, before)
not_offered queue (removes ids) id fits before = (refl, before)
not_offered queue empties id fits before = (refl, before)

never_offered : (id : ℕ) (from : State) (events : List Event) → AllowsAll from events → id < from.queue.next_id
    → offer_sum id events ≡ 0
never_offered id from [] all before = refl
never_offered id from (event ∷ events) all before =
    let (none, still) =
    not_offered from.queue (effect_of event.act) id (permitted_fits from.queue event.at event.act all.0.act) before in
    omega (
      arith,
      none,
      never_offered id (state_after from event) events all.1 still,
      sum_by-cons (λ (e : Event). offers_of id (effect_of e.act)) event events,
    )

module _ (origin : ℕ) where
  only_same : (other : ℕ) → other ≡ origin → only origin other ≡ 1
  only_same other same = ap bit (eq-eqb other origin same)

  only_other : (other : ℕ) → other ≢ origin → only origin other ≡ 0
  only_other other differ = ap bit (ne_eqb other origin differ)

  only_cons : (first : Element) (elements : List Element)
      → origins_sum (only origin) (first ∷ elements) ≡ only origin first.origin + origins_sum (only origin) elements
  only_cons first elements = sum_by-cons (λ (e : Element). only origin e.origin) first elements

  -- one of them is of this origin
  some_among : (elements : List Element) → 0 < origins_sum (only origin) elements
      → (element : Element) × IsAmong element elements × (element.origin ≡ origin)
  some_among [] some = absurd (omega (arith, some))
  some_among (first ∷ elements) some = by_origin (same_or_not first.origin origin) (some_among elements)
    where
      by_origin : (first.origin ≡ origin) ⊎ (first.origin ≢ origin)
          → (0 < origins_sum (only origin) elements
          → (element : Element) × IsAmong element elements × (element.origin ≡ origin))
          → (element : Element) × IsAmong element (first ∷ elements) × (element.origin ≡ origin)
      by_origin (inl same) later = (first, inl refl, same)
      by_origin (inr differ) later =
          let (element, among, named) =
          later (omega (arith, some, only_cons first elements, only_other first.origin differ)) in
          (element, inr among, named)

  -- at most one is, if no two elements are of one origin
  there_once : (elements : List Element) (end : ℕ) → AreInOrder elements end
      → ((one other : Element) → IsAmong one elements → IsAmong other elements → one.origin ≡ other.origin → one ≡ other)
      → origins_sum (only origin) elements ≤ 1
  there_once [] end order apart = omega arith
  there_once (first ∷ rest) end order apart =
      by_origin (same_or_not first.origin origin) (cases_lt 0 (origins_sum (only origin) rest))
      (there_once rest end (rest_order first rest end order) (λ one other here there. apart one other (inr here) (inr there)))
    where
      by_origin : (first.origin ≡ origin) ⊎ (first.origin ≢ origin)
          → (0 < origins_sum (only origin) rest) ⊎ (origins_sum (only origin) rest ≤ 0)
          → origins_sum (only origin) rest ≤ 1 → origins_sum (only origin) (first ∷ rest) ≤ 1
      by_origin (inl same) (inl some) later =
          let (element, among, named) = some_among rest some in
          let is = apart first element (inl refl) (inr among) (same ∙ sym named) in
          let (place, within, at) = place_among element rest among in
          let rises = order.rising 0 (suc place) (omega arith) (omega (arith, within)) in
          absurd (omega (arith, rises, at, ap (λ (e : Element). e.id) is))
      by_origin (inl same) (inr none) later =
          omega (arith, none, only_cons first rest, only_same first.origin same)
      by_origin (inr differ) either later =
          omega (arith, later, only_cons first rest, only_other first.origin differ)

  -- so a job was there, or was begun, once at most
  pub begins_once : (opening : Opening) (history : List Event) → AreJobs (start_of opening).queue → IsLegal opening history
      → origins_sum (only origin) opening.elements + offer_sum origin history ≤ 1
  begins_once opening history jobs legal =
      by_sum (cases_lt 0 (origins_sum (only origin) opening.elements))
    where
      stands : (element : Element) → IsAmong element opening.elements
          → Stands (start_of opening).queue.bag element
      stands element among =
          among_stands opening.elements opening.next_id element opening.opening.order among

      by_sum : (0 < origins_sum (only origin) opening.elements) ⊎ (origins_sum (only origin) opening.elements ≤ 0)
          → origins_sum (only origin) opening.elements + offer_sum origin history ≤ 1
      by_sum (inl some) =
          let (element, among, named) = some_among opening.elements some in
          let below = jobs.given_out element (stands element among) in
          omega (
            arith,
            there_once opening.elements opening.next_id opening.opening.order
                (λ one other here there. jobs.one_each one other (stands one here) (stands other there)),
            never_offered origin (start_of opening) history legal (omega (arith, below, named)),
          )
      by_sum (inr none) = omega (arith, none, is_offered_once opening history origin legal)
