-- A legal history whose seats hold what they are given keeps jobs apart, event by event.
use Rattle.std.proofs.Common.{◌≡◌, ◌≢◌, ℕ, suc, ◌+◌, ◌-◌, ◌<◌, ◌≤◌, ◌⊎◌, inl, inr, List, [], ◌∷◌, ◌++◌, length, refl, sym, ap, subst, ◌∙◌, arith, append-nil, append_assoc, remove, Bool, true, cond, Some, eq-eqb, ne_eqb}
use Rattle.std.proofs.lemmas.Bool.Decides.{nat_tests}
use Rattle.std.proofs.lemmas.List.Elements.{filter-append}
use Rattle.std.proofs.lemmas.Option.{same_Some}
use Rattle.std.specs.Prelude.{is_some, slice_index, filter, ◌==◌, option_and_then}
use Rattle.std.specs.List.{find, filter_map}
use Rattle.std.specs.FinMap as map
use Rattle.std.specs.FinMap.{get-empty}
use Rattle.std.specs.Ordering.{nat_cmp}
use Rattle.rb_delayed.specs.declared.element.Element.{Element}
use Rattle.rb_queue.specs.Bag.{Bag, bag_from}
use Rattle.rb_queue.specs.Queue.{Queue}
use Rattle.rb_queue.specs.Calls.{Permits}
use Rattle.rb_queue.specs.Effect.{inserts, effect_of, queue_after, inserted, given}
use Rattle.rb_queue.specs.History.{State, start_of, state_after, state_from, state_of, Allows, AllowsAll, IsLegal}
use Rattle.rb_queue.specs.Opening.{ids_of, AreInOrder}
use Rattle.rb_queue.specs.Replies.{reply_in, with_inserted, offered_from, offered, reply_of}
use Rattle.rb_queue.specs.declared.act.Act.{Act}
use Rattle.rb_queue.specs.declared.act.Act.TheVariants.{Offer}
use Rattle.rb_queue.specs.declared.event.Event.{Event}
use Rattle.rb_queue.specs.declared.opening.Opening.{Opening}
use Rattle.rb_queue.specs.declared.reply.Reply.TheVariants.{Offered}
use Rattle.rb_queue.proofs.Bags.{get_inserted_same, get_inserted_other}
use Rattle.rb_queue.proofs.Histories.{state_from-append}
use Rattle.rb_queue.proofs.Leavings.{below_start}
use Rattle.rb_queue.proofs.OfferedElements.{reply_of_last, standing_offered}
use Rattle.rb_queue.proofs.Options.{same_or_not}
use Rattle.rb_retry.specs.Made.{Made, made_after, made_by}
use Rattle.rb_retry.specs.RecordLaws.{last_of, made_after-more}
use Rattle.rb_retry.specs.declared.policy.Policy.{Policy}
use Rattle.rb_history.specs.Offers.{offers_in}
use Rattle.rb_replay.specs.GivenElements.{elements_given, elements_given_from}
use Rattle.rb_replay.specs.Links.{IsLinked, is_attempt}
use Rattle.rb_replay.specs.Chaining.{past_of}
use Rattle.rb_replay.proofs.AttemptIndexes.{of_attempt}
use Rattle.rb_replay.proofs.ChainedHistories.{right_retry}
use Rattle.rb_jobs.specs.HeldIds.{AreHeldOnce}
use Rattle.rb_jobs.specs.RunEvents.{AreSomeOf}
use Rattle.rb_jobs.proofs.HandedOut.{some_all}
use Rattle.rb_jobs.specs.Among.{IsAmong}
use Rattle.rb_jobs.specs.Attempts.{HasNext, IsLatestAttempt, came_in}
use Rattle.rb_jobs.specs.Hands.{RetriesJob, Handles, HandlesAll, AreHands}
use Rattle.rb_jobs.specs.Places.{Place, waits, held_by, IsAt, AreInOnePlace, AreJobs, JobsAreKept}
use Rattle.rb_jobs.proofs.Lists.{among_some, among_at, among_cases, among_removed, among_right, any_among, among_found, find_only, once_removed, once_some, taken_gone}
use Rattle.rb_jobs.proofs.Apart.{Apart, IsPast, comes, gives as gives_to, next_more, no_seat, once_both, same_seat}
use Rattle.rb_jobs.proofs.Gifts.{IsNamed, Leaves, Stands, leaves_by, named_after, named_from}

-- what was offered, with one event more
offers_last : (events : List Event) (event : Event)
    → offers_in (events ++ event ∷ []) ≡ offers_in events ++ inserted (effect_of event.act)
offers_last [] event = append-nil (inserted (effect_of event.act))
offers_last (first ∷ events) event =
    ap (λ (rest : List Element). inserted (effect_of first.act) ++ rest) (offers_last events event)
    ∙ sym (append_assoc (inserted (effect_of first.act)) (offers_in events) (inserted (effect_of event.act)))

-- what was given, with one event more
given_last : (came : Bag) (events : List Event) (event : Event)
    → elements_given_from came (events ++ event ∷ [])
    ≡ elements_given_from came events ++ filter_map (map.get (offered_from came events)) (given (effect_of event.act))
given_last came [] event = append-nil (filter_map (map.get came) (given (effect_of event.act)))
given_last came (first ∷ events) event =
    let after : Bag = with_inserted came (effect_of first.act) in
    let gave : List Element = filter_map (map.get came) (given (effect_of first.act)) in
    ap (λ (rest : List Element). gave ++ rest) (given_last after events event)
    ∙ sym (append_assoc gave (elements_given_from after events)
    (filter_map (map.get (offered_from after events)) (given (effect_of event.act))))

-- what the act of the last event names is its reply
pub reply_last : (opening : Opening) (front : List Event) (event : Event)
    → reply_of opening (front ++ event ∷ []) ≡ reply_in (offered opening (front ++ event ∷ [])) event.act
reply_last opening front event =
    ap (option_and_then (λ (e : Event). reply_in (offered opening (front ++ event ∷ [])) e.act)) (last_of front event)

-- the elements of an opening stand in its bag, and no others
pub place_among : (element : Element) (elements : List Element) → IsAmong element elements
    → (place : ℕ) × (place < length elements) × (slice_index (ids_of elements) place ≡ element.id)
place_among element [] among = absurd among
place_among element (first ∷ elements) (inl is) = (0, omega arith, ap (λ (e : Element). e.id) (sym is))
place_among element (first ∷ elements) (inr later) =
    let (place, within, named) = place_among element elements later in (suc place, omega (arith, within), named)

pub rest_order : (first : Element) (rest : List Element) (end : ℕ) → AreInOrder (first ∷ rest) end → AreInOrder rest end
rest_order first rest end order = record {
  rising = λ one other before within. order.rising (suc one) (suc other) (omega arith) (omega arith);
  below = λ place within. order.below (suc place) (omega arith);
}

pub among_stands : (elements : List Element) (end : ℕ) (element : Element) → AreInOrder elements end
    → IsAmong element elements → Stands (bag_from elements) element
among_stands [] end element order among = absurd among
among_stands (first ∷ rest) end element order (inl is) =
    subst (Stands (bag_from (first ∷ rest))) (sym is) (get_inserted_same (bag_from rest) first.id first)
among_stands (first ∷ rest) end element order (inr later) =
    let (place, within, named) = place_among element rest later in
    let rises = order.rising 0 (suc place) (omega arith) (omega (arith, within)) in
    get_inserted_other (bag_from rest) first.id element.id first (λ same. omega (arith, rises, named, same))
    ∙ among_stands rest end element (rest_order first rest end order) later

pub stands_among : (elements : List Element) (element : Element) → Stands (bag_from elements) element
    → IsAmong element elements
stands_among [] element there = let none = get-empty {X = Element} nat_cmp element.id in absurd (cc)
stands_among (first ∷ rest) element there = by_id (same_or_not element.id first.id) (stands_among rest element)
  where
    by_id : (element.id ≡ first.id) ⊎ (element.id ≢ first.id) → (Stands (bag_from rest) element → IsAmong element rest)
        → IsAmong element (first ∷ rest)
    by_id (inl same) later =
        inl (sym (same_Some first element (sym (get_inserted_same (bag_from rest) first.id first)
        ∙ ap (map.get (bag_from (first ∷ rest))) (sym same) ∙ there)))
    by_id (inr differ) later =
        inr (later (sym (get_inserted_other (bag_from rest) first.id element.id first differ) ∙ there))

-- each element of a legal history's queue is under its id
pub named_along : (from : State) (events : List Event) → IsNamed from.queue.bag → IsNamed (state_from from events).queue.bag
named_along from [] named = named
named_along from (event ∷ events) named =
    named_along (state_after from event) events (named_after from.queue (effect_of event.act) named)

-- what a seat made by some events and by more
made_by_more : (seat : ℕ) (opening : Opening) (events more : List Event) → made_by seat opening (events ++ more)
    ≡ made_by seat opening events ++ filter (λ (made : Made). made.event.seat == seat) (made_after opening events more)
made_by_more seat opening events more =
    ap (filter (λ (made : Made). made.event.seat == seat)) (made_after-more opening [] events more)
    ∙ filter-append (λ (made : Made). made.event.seat == seat) (made_after opening [] events) (made_after opening events more)

-- what is handled by some events and by more
handles_split : (policy : Policy) (held : List Element) (mades more : List Made) (after : List Element)
    → HandlesAll policy held (mades ++ more) after
    → (between : List Element) × HandlesAll policy held mades between × HandlesAll policy between more after
handles_split policy held [] more after all = (held, some_all held, all)
handles_split policy held (made ∷ mades) more after (kept, are, between, handles, rest) =
    let (last, front, behind) = handles_split policy between mades more after rest in
    (last, (kept, are, between, handles, front), behind)

-- The hands behind the first events, and what becomes of them by the others.
pub record Hands (policy : Policy) (opening : Opening) (front events : List Event) (hands : ℕ → List Element) : Type 0 where
  pub before : ℕ → List Element
  pub are : AreHands policy opening front before
  pub go_on : (seat : ℕ) → HandlesAll policy (before seat)
      (filter (λ (made : Made). made.event.seat == seat) (made_after opening front events)) (hands seat)

split_hands : (policy : Policy) (opening : Opening) (front events : List Event) (hands : ℕ → List Element)
    → AreHands policy opening (front ++ events) hands → Hands policy opening front events hands
split_hands policy opening front events hands are =
    let each = (λ (seat : ℕ). handles_split policy [] (made_by seat opening front)
    (filter (λ (made : Made). made.event.seat == seat) (made_after opening front events)) (hands seat)
    (subst (λ mades. HandlesAll policy [] mades (hands seat)) (made_by_more seat opening front events) (are seat))) in record {
      before = λ seat. (each seat).0;
      are = λ seat. (each seat).1;
      go_on = λ seat. (each seat).2;
    }

module _ (policy : Policy) (opening : Opening) where
  -- What the seat of an event keeps, and holds behind it.
  pub record Turn (front : List Event) (event : Event) (before : ℕ → List Element) : Type 0 where
    pub kept : List Element
    pub are : AreSomeOf kept (before event.seat)
    pub between : List Element
    pub handles : Handles policy kept event.asked (reply_of opening (front ++ event ∷ [])) between

  turn_of : (front : List Event) (event : Event) (behind : List Event) (hands : ℕ → List Element)
      → (split : Hands policy opening front (event ∷ behind) hands) → Turn front event split.before
  turn_of front event behind hands split =
      let here : Made = record { event = event; reply = reply_of opening (front ++ event ∷ []) } in
      let rest : List Made =
      filter (λ (made : Made). made.event.seat == event.seat) (made_after opening (front ++ event ∷ []) behind) in
      let own : filter (λ (made : Made). made.event.seat == event.seat) (made_after opening front (event ∷ behind))
      ≡ here ∷ rest = ap (λ (test : Bool). cond test (here ∷ rest) rest) (eq-eqb event.seat event.seat refl) in
      let (kept, are, between, handles, more) =
      subst (λ mades. HandlesAll policy (split.before event.seat) mades (hands event.seat)) own (split.go_on event.seat) in
      record { kept = kept; are = are; between = between; handles = handles }

  -- behind one event its seat holds some of what it holds there, and the others some of what they held
  after_own : (front : List Event) (event : Event) (hands : ℕ → List Element)
      → (split : Hands policy opening front (event ∷ []) hands)
      → (turn : Turn front event split.before) × AreSomeOf (hands event.seat) turn.between
  after_own front event hands split =
      let here : Made = record { event = event; reply = reply_of opening (front ++ event ∷ []) } in
      let own : filter (λ (made : Made). made.event.seat == event.seat) (made_after opening front (event ∷ []))
      ≡ here ∷ [] = ap (λ (test : Bool). cond test (here ∷ []) []) (eq-eqb event.seat event.seat refl) in
      let (kept, are, between, handles, more) =
      subst (λ mades. HandlesAll policy (split.before event.seat) mades (hands event.seat)) own (split.go_on event.seat) in
      (record { kept = kept; are = are; between = between; handles = handles }, more)

  after_other : (front : List Event) (event : Event) (hands : ℕ → List Element)
      → (split : Hands policy opening front (event ∷ []) hands) → (seat : ℕ) → event.seat ≢ seat
      → AreSomeOf (hands seat) (split.before seat)
  after_other front event hands split seat differ =
      let here : Made = record { event = event; reply = reply_of opening (front ++ event ∷ []) } in
      let none : filter (λ (made : Made). made.event.seat == seat) (made_after opening front (event ∷ [])) ≡ [] =
      ap (λ (test : Bool). cond test (here ∷ []) []) (ne_eqb event.seat seat differ) in
      subst (λ mades. HandlesAll policy (split.before seat) mades (hands seat)) none (split.go_on seat)

  -- what came in
  abbrev pub came_of : List Event → List Element
  came_of front = came_in opening front

  -- the queue behind these events
  abbrev pub queue_of : List Event → Queue
  queue_of front = (state_of opening front).queue

  abbrev pub ApartIn : List Element → List Element → Queue → (ℕ → List Element) → Type 0
  ApartIn came given queue hands = Apart came given (Stands queue.bag) queue.next_id hands

  -- behind these events jobs stand apart, whatever the seats may hold
  abbrev pub KeepsApart : List Event → Type 0
  KeepsApart front = (hands : ℕ → List Element) → AreHands policy opening front hands
      → ApartIn (came_of front) (elements_given opening front) (queue_of front) hands

  moved : (came came' given given' : List Element) (queue queue' : Queue) (hands : ℕ → List Element) → came ≡ came'
      → given ≡ given' → queue ≡ queue' → ApartIn came given queue hands → ApartIn came' given' queue' hands
  moved came came' given given' queue queue' hands same_came same_given same_queue apart =
      subst (λ q. ApartIn came' given' q hands) same_queue
      (subst (λ g. ApartIn came' g queue hands) same_given (subst (λ c. ApartIn c given queue hands) same_came apart))

  -- at the start
  starts_apart : AreJobs (start_of opening).queue → KeepsApart []
  starts_apart jobs hands are =
      let elements : List Element = opening.elements in
      moved elements (elements ++ []) [] [] (start_of opening).queue (start_of opening).queue hands
      (sym (append-nil elements)) refl refl (record {
        latest = λ origin. find (λ (e : Element). e.origin == origin) elements;
        place = λ id. waits;
        real = λ origin last is. found_among origin last is;
        begun = λ element among. (
          jobs.given_out element (stands element among),
          (below_start opening).below element.id (ap is_some (stands element among)),
        );
        ranked = λ element among. (element, only element among, omega arith);
        followed = λ element among. inl (only element among);
        waiting = λ element there.
            let among = stands_among elements element there in (among, only element among, refl);
        held = λ seat element among. absurd (among_some element (hands seat) [] (are seat) among);
        once = λ seat. once_some (hands seat) [] (are seat) (λ id. omega arith);
        gave = λ element among. absurd among;
      })
    where
      stands : (element : Element) → IsAmong element opening.elements → Stands (bag_from opening.elements) element
      stands element among = among_stands opening.elements opening.next_id element opening.opening.order among

      found_among : (origin : ℕ) (last : Element) → find (λ (e : Element). e.origin == origin) opening.elements ≡ Some last
          → IsAmong last opening.elements × (last.origin ≡ origin)
      found_among origin last is =
          let (among, passes) = among_found (λ e. e.origin == origin) opening.elements last is in
          (among, grind (arith, nat_tests, passes))

      only : (element : Element) → IsAmong element opening.elements
          → find (λ (e : Element). e.origin == element.origin) opening.elements ≡ Some element
      only element among =
          find_only (λ e. e.origin == element.origin) opening.elements element among
          (eq-eqb element.origin element.origin refl)
          (λ other there passes.
          jobs.one_each other element (stands other there) (stands element among) (same_origin other passes))
        where
          same_origin : (other : Element) → (other.origin == element.origin) ≡ true → other.origin ≡ element.origin
          same_origin other passes = grind (arith, nat_tests, passes)

  module _ (front : List Event) (before : ℕ → List Element)
      (apart : ApartIn (came_of front) (elements_given opening front) (queue_of front) before) where
    -- what the seat of an event keeps is once there
    kept_once : (event : Event) (turn : Turn front event before) → AreHeldOnce turn.kept
    kept_once event turn = once_some turn.kept (before event.seat) turn.are (apart.once event.seat)

    kept_held : (event : Event) (turn : Turn front event before) (element : Element) → IsAmong element turn.kept
        → IsAmong element (before event.seat)
    kept_held event turn element among = among_some element turn.kept (before event.seat) turn.are among

    -- an offer is linked to what came before it
    links : (event : Event) (turn : Turn front event before) (element : Element) → event.act ≡ Offer element
        → IsLinked policy (past_of opening front) event.asked element
    links event turn element offers =
        by_turn (subst (λ reply. Handles policy turn.kept event.asked reply turn.between)
        (reply_last opening front event ∙ ap (reply_in (offered opening (front ++ event ∷ []))) offers) turn.handles)
      where
        by_turn : Handles policy turn.kept event.asked (Some (Offered element)) turn.between
            → IsLinked policy (past_of opening front) event.asked element
        by_turn (inl (first, same)) = record {
          begins = λ one. first.begins;
          goes_on = λ later. absurd (omega (arith, later, first.attempt));
        }
        by_turn (inr (place, failed, at, next, after)) =
            let (gave, last, held) =
            apart.held event.seat failed (kept_held event turn failed (among_at turn.kept place failed at)) in
            let own : is_attempt element.origin (element.attempt - 1) failed ≡ true =
            own_attempt (eq-eqb failed.origin element.origin (sym next.origin))
            (eq-eqb failed.attempt (element.attempt - 1) (omega (arith, next.attempt))) in record {
              begins = λ one. absurd (omega (arith, one, next.attempt, failed.attempt_from_one));
              goes_on = λ later. right_retry policy (past_of opening front) event.asked element failed
                  (omega (arith, next.fewer, next.attempt))
                  (find_only (is_attempt element.origin (element.attempt - 1)) (elements_given opening front) failed
                  gave own (λ other there passes. only failed next last other there passes)) next.follows
                  (λ came. before_it failed next last
                  (any_among (is_attempt element.origin element.attempt) (came_of front) came));
            }
          where
            own_attempt : (failed.origin == element.origin) ≡ true → (failed.attempt == element.attempt - 1) ≡ true
                → is_attempt element.origin (element.attempt - 1) failed ≡ true
            own_attempt one other = grind (arith, one, other)

            rank : (failed : Element) → RetriesJob policy failed event.asked element
                → apart.latest failed.origin ≡ Some failed → (other : Element) → IsAmong other (came_of front)
                → other.origin ≡ element.origin → other.attempt ≤ failed.attempt
            rank failed next last other came same =
                let (latest, is, few) = apart.ranked other came in
                let latest_is : latest ≡ failed =
                same_Some latest failed (sym is ∙ ap apart.latest (same ∙ next.origin) ∙ last) in
                omega (arith, few, ap (λ (e : Element). e.attempt) latest_is)

            only : (failed : Element) → RetriesJob policy failed event.asked element
                → apart.latest failed.origin ≡ Some failed → (other : Element)
                → IsAmong other (elements_given opening front)
                → is_attempt element.origin (element.attempt - 1) other ≡ true → other ≡ failed
            only failed next last other there passes =
                let (same, attempt) = of_attempt element.origin (element.attempt - 1) other passes in
                elim (apart.followed other (apart.gave other there)) [
                  | inl latest ↦
                      same_Some other failed (sym latest ∙ ap apart.latest (same ∙ next.origin) ∙ last)
                  | inr more ↦
                      absurd (omega (
                        arith,
                        more.attempt,
                        attempt,
                        next.attempt,
                        rank failed next last more.next more.among (more.origin ∙ same),
                      ))
                ]

            before_it : (failed : Element) → RetriesJob policy failed event.asked element
                → apart.latest failed.origin ≡ Some failed
                → ((other : Element) × IsAmong other (came_of front) × (is_attempt element.origin element.attempt other ≡ true))
                → ⊥
            before_it failed next last (other, came, passes) =
                let (same, attempt) = of_attempt element.origin element.attempt other passes in
                absurd (omega (arith, attempt, next.attempt, rank failed next last other came same))

    -- what came of the origin of an offered element is past
    is_past : (event : Event) (turn : Turn front event before) (new : Element) (hands : ℕ → List Element)
        → new.id ≡ (queue_of front).next_id → Handles policy turn.kept event.asked (Some (Offered new)) turn.between
        → AreSomeOf (hands event.seat) turn.between
        → ((seat : ℕ) → event.seat ≢ seat → AreSomeOf (hands seat) (before seat)) → (element : Element)
        → IsAmong element (came_of front) → element.origin ≡ new.origin
        → IsPast (came_of front) (elements_given opening front) (Stands (queue_of front).bag) (queue_of front).next_id before apart new hands element
    is_past event turn new hands named (inl (first, same)) own others element came origin =
        absurd (omega (arith, (apart.begun element came).0, origin, first.begins.origin, named))
    is_past event turn new hands named (inr (place, failed, at, next, after)) own others element came origin =
        let held = kept_held event turn failed (among_at turn.kept place failed at) in
        let (gave, last, there) = apart.held event.seat failed held in
        let (latest, is, few) = apart.ranked element came in
        let latest_is : latest ≡ failed =
        same_Some latest failed (sym is ∙ ap apart.latest (origin ∙ next.origin) ∙ last) in record {
          earlier = omega (arith, few, next.attempt, ap (λ (e : Element). e.attempt) latest_is);
          followed = elim (apart.followed element came) [
            | inl own_last ↦ followed_by (same_Some element failed (sym own_last ∙ ap apart.latest (origin ∙ next.origin) ∙ last))
            | inr more ↦ next_more (came_of front) (new ∷ []) element more
          ];
          not_waiting = λ waits_now.
              let (among, own_last, place_is) = apart.waiting element waits_now in
              let same : element ≡ failed =
              same_Some element failed (sym own_last ∙ ap apart.latest (origin ∙ next.origin) ∙ last) in
              no_seat event.seat (sym place_is ∙ ap (λ (e : Element). apart.place e.id) same ∙ there);
          not_held = λ seat among. not_held last there after seat among (same_or_not event.seat seat);
        }
      where
        followed_by : element ≡ failed → HasNext (came_of front ++ new ∷ []) element
        followed_by same = record {
          next = new;
          among = among_right new (came_of front) (new ∷ []) (inl refl);
          origin = sym origin;
          attempt = next.attempt ∙ ap (λ (e : Element). e.attempt + 1) (sym same);
        }

        is_failed : apart.latest failed.origin ≡ Some failed → (seat : ℕ) → IsAmong element (before seat)
            → element ≡ failed
        is_failed last seat among =
            same_Some element failed (sym (apart.held seat element among).1 ∙ ap apart.latest (origin ∙ next.origin) ∙ last)

        not_held : apart.latest failed.origin ≡ Some failed → apart.place failed.id ≡ held_by event.seat
            → turn.between ≡ remove turn.kept place → (seat : ℕ) → IsAmong element (hands seat)
            → (event.seat ≡ seat) ⊎ (event.seat ≢ seat) → ⊥
        not_held last there after seat among (inl same) =
            let within : IsAmong element (remove turn.kept place) =
            subst (IsAmong element) after (among_some element (hands event.seat) turn.between own
            (subst (λ s. IsAmong element (hands s)) (sym same) among)) in
            let is : element ≡ failed =
            is_failed last event.seat (kept_held event turn element (among_removed element turn.kept place within)) in
            taken_gone turn.kept place failed at (kept_once event turn)
            (subst (λ e. IsAmong e (remove turn.kept place)) is within)
        not_held last there after seat among (inr differ) =
            let within : IsAmong element (before seat) = among_some element (hands seat) (before seat) (others seat differ) among in
            let is : element ≡ failed = is_failed last seat within in
            differ (same_seat event.seat seat (sym there ∙ ap (λ (e : Element). apart.place e.id) (sym is)
            ∙ (apart.held seat element within).2))

    module _ (event : Event) (allowed : Allows (state_of opening front) event) (hands : ℕ → List Element)
        (turn : Turn front event before) (own : AreSomeOf (hands event.seat) turn.between)
        (others : (seat : ℕ) → event.seat ≢ seat → AreSomeOf (hands seat) (before seat)) where
      -- the queue behind the event
      queue_next : queue_after (queue_of front) (effect_of event.act) ≡ queue_of (front ++ event ∷ [])
      queue_next = ap (λ (s : State). s.queue) (sym (state_from-append (start_of opening) front event))

      came_next : came_of front ++ inserted (effect_of event.act) ≡ came_of (front ++ event ∷ [])
      came_next =
          append_assoc opening.elements (offers_in front) (inserted (effect_of event.act))
          ∙ ap (λ (more : List Element). opening.elements ++ more) (sym (offers_last front event))

      given_next : elements_given opening front ++ filter_map (map.get (offered opening front)) (given (effect_of event.act))
          ≡ elements_given opening (front ++ event ∷ [])
      given_next = sym (given_last (bag_from opening.elements) front event)

      -- behind an offer
      after_offer : (new : Element) → event.act ≡ Offer new
          → ApartIn (came_of (front ++ event ∷ [])) (elements_given opening (front ++ event ∷ []))
          (queue_of (front ++ event ∷ [])) hands
      after_offer new offers =
          let handles : Handles policy turn.kept event.asked (Some (Offered new)) turn.between =
          subst (λ reply. Handles policy turn.kept event.asked reply turn.between)
          (reply_last opening front event ∙ ap (reply_in (offered opening (front ++ event ∷ []))) offers) turn.handles in
          let named : new.id ≡ (queue_of front).next_id =
          subst (λ (act : Act). Permits (queue_of front) event.at act) offers allowed.act in
          moved (came_of front ++ new ∷ []) (came_of (front ++ event ∷ [])) (elements_given opening front)
          (elements_given opening (front ++ event ∷ [])) (queue_after (queue_of front) (inserts new))
          (queue_of (front ++ event ∷ [])) hands
          (ap (λ (act : Act). came_of front ++ inserted (effect_of act)) (sym offers) ∙ came_next)
          (sym (append-nil (elements_given opening front))
          ∙ ap (λ (act : Act). elements_given opening front ++ filter_map (map.get (offered opening front)) (given (effect_of act)))
          (sym offers) ∙ given_next)
          (ap (λ (act : Act). queue_after (queue_of front) (effect_of act)) (sym offers) ∙ queue_next)
          (comes (came_of front) (elements_given opening front) (Stands (queue_of front).bag) (queue_of front).next_id
          before apart new (Stands (map.insert (queue_of front).bag new.id new)) hands named (of_old named handles)
          (λ element there. waited element there (same_or_not element.id new.id))
          (λ seat element among. held_before handles seat element among (same_or_not event.seat seat))
          (λ seat. once_behind handles seat (same_or_not event.seat seat))
          (λ element came origin. is_past event turn new hands named handles own others element came origin))
        where
          of_old : new.id ≡ (queue_of front).next_id
              → Handles policy turn.kept event.asked (Some (Offered new)) turn.between
              → new.origin < (queue_of front).next_id + 1
          of_old named (inl (first, same)) = omega (arith, first.begins.origin, named)
          of_old named (inr (place, failed, at, next, after)) =
              let gave =
              (apart.held event.seat failed (kept_held event turn failed (among_at turn.kept place failed at))).0 in
              omega (arith, next.origin, (apart.begun failed (apart.gave failed gave)).0)

          waited : (element : Element) → Stands (map.insert (queue_of front).bag new.id new) element
              → (element.id ≡ new.id) ⊎ (element.id ≢ new.id) → Stands (queue_of front).bag element ⊎ (element ≡ new)
          waited element there (inl same) =
              inr (sym (same_Some new element (sym (get_inserted_same (queue_of front).bag new.id new)
              ∙ ap (map.get (map.insert (queue_of front).bag new.id new)) (sym same) ∙ there)))
          waited element there (inr differ) =
              inl (sym (get_inserted_other (queue_of front).bag new.id element.id new differ) ∙ there)

          within_kept : Handles policy turn.kept event.asked (Some (Offered new)) turn.between → (element : Element)
              → IsAmong element turn.between → IsAmong element turn.kept
          within_kept (inl (first, same)) element among = subst (IsAmong element) same among
          within_kept (inr (place, failed, at, next, after)) element among =
              among_removed element turn.kept place (subst (IsAmong element) after among)

          held_before : Handles policy turn.kept event.asked (Some (Offered new)) turn.between → (seat : ℕ)
              → (element : Element) → IsAmong element (hands seat) → (event.seat ≡ seat) ⊎ (event.seat ≢ seat)
              → IsAmong element (before seat)
          held_before handles seat element among (inl same) =
              subst (λ s. IsAmong element (before s)) same (kept_held event turn element (within_kept handles element
              (among_some element (hands event.seat) turn.between own
              (subst (λ s. IsAmong element (hands s)) (sym same) among))))
          held_before handles seat element among (inr differ) =
              among_some element (hands seat) (before seat) (others seat differ) among

          once_between : Handles policy turn.kept event.asked (Some (Offered new)) turn.between → AreHeldOnce turn.between
          once_between (inl (first, same)) = subst AreHeldOnce (sym same) (kept_once event turn)
          once_between (inr (place, failed, at, next, after)) =
              subst AreHeldOnce (sym after) (once_removed turn.kept place failed at (kept_once event turn))

          once_behind : Handles policy turn.kept event.asked (Some (Offered new)) turn.between → (seat : ℕ)
              → (event.seat ≡ seat) ⊎ (event.seat ≢ seat) → AreHeldOnce (hands seat)
          once_behind handles seat (inl same) =
              subst (λ s. AreHeldOnce (hands s)) same
              (once_some (hands event.seat) turn.between own (once_between handles))
          once_behind handles seat (inr differ) =
              once_some (hands seat) (before seat) (others seat differ) (apart.once seat)

      -- behind any other event
      after_other_act : Leaves (queue_of front) (offered opening front) event.act
          → ApartIn (came_of (front ++ event ∷ [])) (elements_given opening (front ++ event ∷ []))
          (queue_of (front ++ event ∷ [])) hands
      after_other_act leaves =
          let between : turn.between ≡ turn.kept ++ leaves.elements =
          leaves.plain policy turn.kept event.asked turn.between
          (subst (λ reply. Handles policy turn.kept event.asked reply turn.between)
          (reply_of_last opening front event leaves.reply leaves.told) turn.handles) in
          moved (came_of front) (came_of (front ++ event ∷ [])) (elements_given opening front ++ leaves.elements)
          (elements_given opening (front ++ event ∷ [])) (queue_after (queue_of front) (effect_of event.act))
          (queue_of (front ++ event ∷ [])) hands
          (sym (append-nil (came_of front)) ∙ ap (λ (more : List Element). came_of front ++ more) (sym leaves.none_in)
          ∙ came_next)
          (ap (λ (more : List Element). elements_given opening front ++ more) (sym leaves.given) ∙ given_next)
          queue_next
          (subst (λ next. Apart (came_of front) (elements_given opening front ++ leaves.elements)
          (Stands (queue_after (queue_of front) (effect_of event.act)).bag) next hands) (sym leaves.next)
          (gives_to (came_of front) (elements_given opening front) (Stands (queue_of front).bag) (queue_of front).next_id
          before apart event.seat leaves.elements (Stands (queue_after (queue_of front) (effect_of event.act)).bag) hands
          leaves.stand leaves.left
          (λ seat element among. held_of between seat element among (same_or_not event.seat seat))
          (λ seat. once_of between seat (same_or_not event.seat seat))))
        where
          held_of : turn.between ≡ turn.kept ++ leaves.elements → (seat : ℕ) (element : Element)
              → IsAmong element (hands seat) → (event.seat ≡ seat) ⊎ (event.seat ≢ seat)
              → IsAmong element (before seat) ⊎ ((seat ≡ event.seat) × IsAmong element leaves.elements)
          held_of is seat element among (inl same) =
              elim (among_cases element turn.kept leaves.elements (subst (IsAmong element) is
              (among_some element (hands event.seat) turn.between own
              (subst (λ s. IsAmong element (hands s)) (sym same) among)))) [
                | inl old ↦ inl (subst (λ s. IsAmong element (before s)) same (kept_held event turn element old))
                | inr new ↦ inr (sym same, new)
              ]
          held_of is seat element among (inr differ) =
              inl (among_some element (hands seat) (before seat) (others seat differ) among)

          once_of : turn.between ≡ turn.kept ++ leaves.elements → (seat : ℕ) → (event.seat ≡ seat) ⊎ (event.seat ≢ seat)
              → AreHeldOnce (hands seat)
          once_of is seat (inl same) =
              subst (λ s. AreHeldOnce (hands s)) same
              (once_some (hands event.seat) turn.between own (subst AreHeldOnce (sym is)
              (once_both (came_of front) (elements_given opening front) (Stands (queue_of front).bag)
              (queue_of front).next_id before apart event.seat turn.kept leaves.elements (kept_once event turn) leaves.once
              (kept_held event turn) leaves.stand)))
          once_of is seat (inr differ) =
              once_some (hands seat) (before seat) (others seat differ) (apart.once seat)

  -- one event more
  keeps_more : (front : List Event) (event : Event) → Allows (state_of opening front) event → KeepsApart front
      → KeepsApart (front ++ event ∷ [])
  keeps_more front event allowed keeps hands are =
      let split = split_hands policy opening front (event ∷ []) hands are in
      let (turn, own) = after_own front event hands split in
      let others = after_other front event hands split in
      let apart = keeps split.before split.are in
      elim (leaves_by (queue_of front) (offered opening front) (standing_offered opening front)
      (named_along (start_of opening) front (named_from opening.elements)) event.at event.act allowed.act) [
        | inl (new, offers) ↦ after_offer front split.before apart event allowed hands turn own others new offers
        | inr leaves ↦ after_other_act front split.before apart event allowed hands turn own others leaves
      ]

  keeps_along : (front events : List Event) → AllowsAll (state_of opening front) events → KeepsApart front
      → KeepsApart (front ++ events)
  keeps_along front [] all keeps = subst KeepsApart (sym (append-nil front)) keeps
  keeps_along front (event ∷ events) all keeps =
      subst KeepsApart (append_assoc front (event ∷ []) events)
      (keeps_along (front ++ event ∷ []) events
      (subst (λ s. AllowsAll s events) (sym (state_from-append (start_of opening) front event)) all.1)
      (keeps_more front event all.0 keeps))

  pub keeps_all : AreJobs (start_of opening).queue → (history : List Event) → IsLegal opening history → KeepsApart history
  keeps_all jobs history legal = keeps_along [] history legal (starts_apart jobs)

-- the first events of a legal history are one
legal_front : (from : State) (front behind : List Event) → AllowsAll from (front ++ behind) → AllowsAll from front
legal_front from [] behind all = tt
legal_front from (event ∷ front) behind all = (all.0, legal_front (state_after from event) front behind all.1)

-- where jobs stand apart, each is in one place
module _ (policy : Policy) (opening : Opening) (front : List Event) (held : ℕ → List Element)
    (apart : ApartIn policy opening (came_of policy opening front) (elements_given opening front)
    (queue_of policy opening front) held) where
  is_at : (place : Place) (element : Element) → IsAt (queue_of policy opening front) held place element
      → (apart.latest element.origin ≡ Some element) × (apart.place element.id ≡ place)
  is_at waits element there = let (among, last, is) = apart.waiting element there in (last, is)
  is_at (held_by seat) element among = let (gave, last, is) = apart.held seat element among in (last, is)

  placed : AreInOnePlace (queue_of policy opening front) held
  placed one other here there at_one at_other same =
      let first = is_at here one at_one in
      let second = is_at there other at_other in
      let is : one ≡ other = same_Some one other (sym first.0 ∙ ap apart.latest same ∙ second.0) in
      (is, sym first.1 ∙ ap (λ (e : Element). apart.place e.id) is ∙ second.1)

pub jobs_are_kept : JobsAreKept
jobs_are_kept policy opening history hands jobs legal are = record {
  chained = record { linked = λ front behind event element split offers. linked front behind event element split offers };
  placed = λ front behind split held are_held one other here there at_one at_other same.
      placed policy opening front held (keeps_all policy opening jobs front (legal_to front behind split) held are_held) one other here
      there at_one at_other same;
  latest = record {
    some = λ element among.
        let (last, is, least) = apart.ranked element among in
        let (there, origin) = apart.real element.origin last is in
        (last, record { among = there; unfollowed = λ has. no_next element last is origin has }, origin);
    one = λ one other first second same. same_last one other first second same;
  };
  left = record {
    one_each = λ one other at_one at_other same.
        (placed policy opening history hands apart one other waits waits at_one at_other same).0;
    given_out = λ element there. (apart.begun element (apart.waiting element there).0).0;
  };
}
  where
    apart : ApartIn policy opening (came_of policy opening history) (elements_given opening history)
        (queue_of policy opening history) hands
    apart = keeps_all policy opening jobs history legal hands are

    no_next : (element last : Element) → apart.latest element.origin ≡ Some last → last.origin ≡ element.origin
        → HasNext (came_in opening history) last → ⊥
    no_next element last is origin has =
        let (latest, is_latest, few) = apart.ranked has.next has.among in
        let same : latest ≡ last =
        same_Some latest last (sym is_latest ∙ ap apart.latest (has.origin ∙ origin) ∙ is) in
        absurd (omega (arith, few, has.attempt, ap (λ (e : Element). e.attempt) same))

    same_last : (one other : Element) → IsLatestAttempt (came_in opening history) one
        → IsLatestAttempt (came_in opening history) other → one.origin ≡ other.origin → one ≡ other
    same_last one other first second same =
        both (apart.followed one first.among) (apart.followed other second.among)
      where
        both : (apart.latest one.origin ≡ Some one) ⊎ HasNext (came_in opening history) one
            → (apart.latest other.origin ≡ Some other) ⊎ HasNext (came_in opening history) other → one ≡ other
        both (inl here) (inl there) = same_Some one other (sym here ∙ ap apart.latest same ∙ there)
        both (inl here) (inr next) = absurd (second.unfollowed next)
        both (inr next) either = absurd (first.unfollowed next)

    legal_to : (front behind : List Event) → history ≡ front ++ behind → IsLegal opening front
    legal_to front behind split = legal_front (start_of opening) front behind (subst (IsLegal opening) split legal)

    linked : (front behind : List Event) (event : Event) (element : Element) → history ≡ front ++ event ∷ behind
        → event.act ≡ Offer element → IsLinked policy (past_of opening front) event.asked element
    linked front behind event element split offers =
        let parts = split_hands policy opening front (event ∷ behind) hands
        (subst (λ h. AreHands policy opening h hands) split are) in
        links policy opening front parts.before
        (keeps_all policy opening jobs front (legal_to front (event ∷ behind) split) parts.before parts.are) event
        (turn_of policy opening front event behind hands parts) element offers
