-- The sums of a history and those of the sessions that made it.
use Rattle.std.proofs.Common.{◌≡◌, ℕ, suc, ◌+◌, ◌<◌, ◌≤◌, ◌⊎◌, inl, inr, List, [], ◌∷◌, ◌++◌, length, map, Bool, cond, true, false, Option, Some, None, Result, Ok, refl, sym, ap, subst, ◌∙◌, arith}
use Rattle.std.proofs.lemmas.Bool.Decides.{nat_tests}
use Rattle.std.proofs.lemmas.List.Sums.{sum_by-append, sum_by-cons}
use Rattle.std.specs.Prelude.{IsSome, nat_le, sum_by}
use Rattle.std.specs.FinMap as bags
use Rattle.std.specs.FinMap.{get-empty}
use Rattle.std.specs.Ordering.{nat_cmp}
use Rattle.rb_delayed.specs.declared.element.Element.{Element}
use Rattle.rb_queue.specs.Bag.{Bag, bag_from}
use Rattle.rb_queue.specs.Counts.{offer_count, give_count}
use Rattle.rb_queue.specs.Effect.{Effect, inserts, gives, removes, empties, effect_of, inserted, given}
use Rattle.rb_queue.specs.History.{IsLegal, State, start_of, state_after, state_of, Allows, AllowsAll}
use Rattle.rb_queue.specs.Leaving.{offers_of as offers_of_id, times}
use Rattle.rb_queue.specs.Opening.{AreInOrder, ids_of}
use Rattle.rb_queue.specs.Queue.{Queue}
use Rattle.rb_queue.specs.Replies.{offered, reply_in, reply_of}
use Rattle.rb_queue.specs.declared.act.Act.{Act}
use Rattle.rb_queue.specs.declared.act.Act.TheVariants as acts
use Rattle.rb_queue.specs.declared.event.Event.{Event}
use Rattle.rb_queue.specs.declared.opening.Opening.{Opening}
use Rattle.rb_queue.specs.declared.reply.Reply.{Reply}
use Rattle.rb_queue.specs.declared.reply.Reply.TheVariants.{Offered, Item, Nothing, Head, Removed, Drained, Cleared, Size}
use Rattle.rb_queue.proofs.Effects.{AreTaken, FitsIn, permitted_fits, times_cons}
use Rattle.rb_queue.proofs.Histories.{state_from-append}
use Rattle.rb_queue.proofs.Leavings.{below_start, is_balanced}
use Rattle.rb_queue.proofs.OfferedElements.{reply_of_last, standing_offered}
use Rattle.rb_retry.specs.Made.{Made, made_after}
use Rattle.rb_retry.specs.declared.policy.Policy.{Policy}
use Rattle.rb_protocol.specs.declared.line_fault.LineFault.{LineFault}
use Rattle.rb_protocol.specs.declared.line_reply.LineReply.{LineReply}
use Rattle.rb_protocol.specs.declared.line_reply.LineReply.TheVariants as lines
use Rattle.rb_protocol.specs.declared.request.Request.{Request}
use Rattle.rb_protocol.specs.declared.request.Request.TheVariants as requests
use Rattle.rb_jobs.specs.Events.{AreOfClosing, AreOfLine, AreOfLines, BeginsOne, TellsOf, TellsOfNone}
use Rattle.rb_jobs.specs.JobEnds.{handed_by, spent_of}
use Rattle.rb_jobs.specs.RunEvents.{MadeByRun}
use Rattle.rb_session.specs.Served.{Served}
use Rattle.rb_session.specs.Session.{Turn}
use Rattle.rb_session.specs.Turn.{lines_for}
use Rattle.rb_jobs.proofs.Events.{tells_answer}
use Rattle.rb_jobs.specs.Among.{IsAmong}
use Rattle.rb_jobs.specs.Hands.{reply_elements}
use Rattle.rb_jobs.specs.JobSums.{IsAccount, JobSums, begun_by, begun_in, jobs_of, only}
use Rattle.rb_jobs.specs.QueueSums.{amount_at, amount_of, cleared_sum, origins_sum, removed_sum, sum_below, waiting_sum}
use Rattle.rb_jobs.proofs.EachOnce.{begins_once, offer_sum}
use Rattle.rb_jobs.proofs.Gifts.{Leaves, Stands, leaves_by, named_from, offered_by}
use Rattle.rb_jobs.proofs.Histories.{named_along, place_among, reply_last, rest_order, stands_among}
use Rattle.rb_jobs.proofs.QueueSums.{empty_sum, given_sum_from, offered_sum, same_removed, sum_inserted, sums_along, taken_same}

-- What sessions were handed, and the jobs that they began, are what they offered, and the jobs that ended; and they began
-- no more than they offered, by the ids.
pub record Balance (gifts offers named : ℕ) (jobs : JobSums) : Type 0 where
  pub even : gifts + jobs.begun ≡ offers + jobs.done + jobs.dead + jobs.lost
  pub few : jobs.begun ≤ named

-- the sum of the amounts of these elements' ids
abbrev pub named_sum : (ℕ → ℕ) → List Element → ℕ
named_sum amount elements = sum_by (λ element. amount element.id) elements

-- an event of a legal history offers an element, or is one that hands out some
leaves_at : (opening : Opening) (front : List Event) (event : Event) → Allows (state_of opening front) event
    → ((element : Element) × (event.act ≡ acts.Offer element))
    ⊎ Leaves (state_of opening front).queue (offered opening front) event.act
leaves_at opening front event allowed =
    leaves_by (state_of opening front).queue (offered opening front) (standing_offered opening front)
    (named_along (start_of opening) front (named_from opening.elements)) event.at event.act allowed.act

-- its reply says what its act offers
offered_told : (opening : Opening) (front : List Event) (event : Event) → Allows (state_of opening front) event
    → offered_by (reply_of opening (front ++ event ∷ [])) ≡ inserted (effect_of event.act)
offered_told opening front event allowed =
    elim (leaves_at opening front event allowed) [
      | inl (new, offers) ↦
          ap offered_by (reply_last opening front event ∙ ap (reply_in (offered opening (front ++ event ∷ []))) offers)
          ∙ sym (ap (λ (act : Act). inserted (effect_of act)) offers)
      | inr leaves ↦
          ap offered_by (reply_of_last opening front event leaves.reply leaves.told) ∙ leaves.quiet ∙ sym leaves.none_in
    ]

module _ (amount : ℕ → ℕ) where
  -- how much an event's reply says to be offered, and how much it hands out
  abbrev pub offers_of : Made → ℕ
  offers_of made = origins_sum amount (offered_by made.reply)

  abbrev pub gifts_of : Made → ℕ
  gifts_of made = origins_sum amount (reply_elements made.reply)

  abbrev pub named_of : Made → ℕ
  named_of made = named_sum amount (offered_by made.reply)

  abbrev pub offers_in : List Made → ℕ
  offers_in mades = sum_by offers_of mades

  abbrev pub gifts_in : List Made → ℕ
  gifts_in mades = sum_by gifts_of mades

  abbrev pub named_in : List Made → ℕ
  named_in mades = sum_by named_of mades

  origins_append : (one two : List Element)
      → origins_sum amount (one ++ two) ≡ origins_sum amount one + origins_sum amount two
  origins_append one two = sum_by-append (λ (e : Element). amount e.origin) one two

  origins_cons : (element : Element) (elements : List Element)
      → origins_sum amount (element ∷ elements) ≡ amount element.origin + origins_sum amount elements
  origins_cons element elements = sum_by-cons (λ (e : Element). amount e.origin) element elements

  -- what a line's event offered and handed out is what its replies say, and what failed
  record TellsSums (replies : List LineReply) (failed : List Element) (offers named gifts : ℕ) : Type 0 where
    offers_are : offers ≡ sum_by amount (begun_by replies) + origins_sum amount failed
    begun_few : sum_by amount (begun_by replies) ≤ named
    gifts_are : gifts ≡ origins_sum amount (handed_by replies)

  none_told : (line : LineReply) (reading : Result Request LineFault) → TellsOfNone line reading → TellsSums (line ∷ []) [] 0 0 0
  none_told (lines.Err word) reading none = record { offers_are = refl; begun_few = omega arith; gifts_are = refl }
  none_told lines.Stopped reading none = record { offers_are = refl; begun_few = omega arith; gifts_are = refl }
  none_told (lines.Now moment) reading none = record { offers_are = refl; begun_few = omega arith; gifts_are = refl }
  none_told (lines.Done other) reading none = record { offers_are = refl; begun_few = omega arith; gifts_are = refl }
  none_told (lines.Dead other) reading none = record { offers_are = refl; begun_few = omega arith; gifts_are = refl }
  none_told lines.Bye reading none = record { offers_are = refl; begun_few = omega arith; gifts_are = refl }
  none_told _ reading none = absurd none

  begun_items : (items : List Element) → begun_by (map lines.Item items) ≡ []
  begun_items [] = refl
  begun_items (item ∷ items) = begun_items items

  -- the lines for a reply say what it offers, and begins a job
  offers_told : (reply : Reply) → BeginsOne reply
      → origins_sum amount (offered_by (Some reply)) ≡ sum_by amount (begun_by (lines_for (Ok reply)))
  offers_told (Offered element) (origin, first, attempt) =
      omega (arith, origins_cons element [], sum_by-cons amount element.id [], ap amount origin)
  offers_told (Item element) begins = refl
  offers_told Nothing begins = refl
  offers_told (Head element) begins = refl
  offers_told (Removed found) begins = refl
  offers_told (Drained items) begins = sym (ap (sum_by amount) (begun_items items))
  offers_told Cleared begins = refl
  offers_told (Size count) begins = refl

  begun_named : (reply : Reply) → sum_by amount (begun_by (lines_for (Ok reply))) ≤ named_sum amount (offered_by (Some reply))
  begun_named (Offered element) =
      omega (arith, sum_by-cons amount element.id [], sum_by-cons (λ (e : Element). amount e.id) element [])
  begun_named (Drained items) = omega (arith, ap (sum_by amount) (begun_items items))
  begun_named (Item element) = omega arith
  begun_named Nothing = omega arith
  begun_named (Head element) = omega arith
  begun_named (Removed found) = omega arith
  begun_named Cleared = omega arith
  begun_named (Size count) = omega arith

  -- and what it hands out
  hands_told : (reply : Reply) → reply_elements (Some reply) ≡ handed_by (lines_for (Ok reply))
  hands_told (Offered element) = refl
  hands_told (Item element) = refl
  hands_told Nothing = refl
  hands_told (Head element) = refl
  hands_told (Removed found) = refl
  hands_told (Drained items) = sym (tells_answer (Ok (Drained items))).hands
  hands_told Cleared = refl
  hands_told (Size count) = refl

  plain_told : (reply : Reply) (replies : List LineReply) (failed : List Element)
      → (failed ≡ []) × BeginsOne reply × (replies ≡ lines_for (Ok reply))
      → TellsSums replies failed (origins_sum amount (offered_by (Some reply)))
      (named_sum amount (offered_by (Some reply))) (origins_sum amount (reply_elements (Some reply)))
  plain_told reply replies failed (none, begins, are) = record {
    offers_are = omega (
      arith,
      offers_told reply begins,
      ap (λ (all : List LineReply). sum_by amount (begun_by all)) are,
      ap (origins_sum amount) none,
    );
    begun_few = omega (arith, begun_named reply, ap (λ (all : List LineReply). sum_by amount (begun_by all)) are);
    gifts_are = ap (origins_sum amount) (hands_told reply ∙ ap handed_by (sym are));
  }

  failed_told : (id : ℕ) (reply : Reply) (replies : List LineReply) (failed : List Element)
      → TellsOf (requests.Fail id) reply replies failed
      → TellsSums replies failed (origins_sum amount (offered_by (Some reply)))
      (named_sum amount (offered_by (Some reply))) (origins_sum amount (reply_elements (Some reply)))
  failed_told id (Offered again) replies failed (element, is, named, (origin, attempt, payload), are) = record {
    offers_are = omega (
      arith,
      origins_cons again [],
      origins_cons element [],
      ap amount origin,
      ap (λ (all : List LineReply). sum_by amount (begun_by all)) are,
      ap (origins_sum amount) is,
    );
    begun_few = omega (arith, ap (λ (all : List LineReply). sum_by amount (begun_by all)) are);
    gifts_are = sym (ap (λ (all : List LineReply). origins_sum amount (handed_by all)) are);
  }
  failed_told id _ replies failed told = absurd told

  tells_sums : (request : Request) (reply : Reply) (replies : List LineReply) (failed : List Element)
      → TellsOf request reply replies failed
      → TellsSums replies failed (origins_sum amount (offered_by (Some reply)))
      (named_sum amount (offered_by (Some reply))) (origins_sum amount (reply_elements (Some reply)))
  tells_sums (requests.Fail id) reply replies failed = failed_told id reply replies failed
  tells_sums (requests.Offer delay payload) reply replies failed = plain_told reply replies failed
  tells_sums (requests.OfferAt expiry payload) reply replies failed = plain_told reply replies failed
  tells_sums requests.Poll reply replies failed = plain_told reply replies failed
  tells_sums (requests.PollFor timeout) reply replies failed = plain_told reply replies failed
  tells_sums requests.Take reply replies failed = plain_told reply replies failed
  tells_sums requests.Peek reply replies failed = plain_told reply replies failed
  tells_sums (requests.Remove id) reply replies failed = plain_told reply replies failed
  tells_sums (requests.Drain most) reply replies failed = plain_told reply replies failed
  tells_sums requests.Clear reply replies failed = plain_told reply replies failed
  tells_sums requests.Size reply replies failed = plain_told reply replies failed
  tells_sums (requests.Done id) reply replies failed = plain_told reply replies failed
  tells_sums (requests.At moment) reply replies failed = plain_told reply replies failed
  tells_sums requests.Quit reply replies failed = plain_told reply replies failed

  line_told : (reading : Result Request LineFault) (replies : List LineReply) (mades : List Made) (failed : List Element)
      → AreOfLine reading replies mades failed
      → TellsSums replies failed (offers_in mades) (named_in mades) (gifts_in mades)
  line_told reading replies [] failed (nobody, line, is, none) =
      subst (λ elements. TellsSums replies elements 0 0 0) (sym nobody)
      (subst (λ all. TellsSums all [] 0 0 0) (sym is) (none_told line reading none))
  line_told reading replies (made ∷ []) failed is =
      let told = tells_sums is.request is.reply replies failed is.tells in record {
        offers_are = sum_by-cons offers_of made []
            ∙ omega (arith, ap (λ (r : Option Reply). origins_sum amount (offered_by r)) is.replied, told.offers_are);
        begun_few = omega (
          arith,
          sum_by-cons named_of made [],
          ap (λ (r : Option Reply). named_sum amount (offered_by r)) is.replied,
          told.begun_few,
        );
        gifts_are = sum_by-cons gifts_of made []
            ∙ omega (arith, ap (λ (r : Option Reply). origins_sum amount (reply_elements r)) is.replied, told.gifts_are);
      }
  line_told reading replies (made ∷ other ∷ mades) failed is = absurd is

  -- Lines, one after the other: what was held before them, was handed out or begun was offered again, is done or dead, or
  -- is held behind them; and they begin no more than they offer.
  record Tells (before : List Element) (turns : List Turn) (mades : List Made) (done dead after : List Element) : Type 0 where
    even : origins_sum amount before + gifts_in mades + sum_by amount (begun_in turns)
        ≡ offers_in mades + origins_sum amount done + origins_sum amount dead + origins_sum amount after
    few : sum_by amount (begun_in turns) ≤ named_in mades

  lines_told : (policy : Policy) (before : List Element) (turns : List Turn) (mades : List Made)
      (done dead after : List Element) → AreOfLines policy before turns mades done dead after
      → Tells before turns mades done dead after
  lines_told policy before [] mades done dead after (none, no_done, no_dead, same) = record {
    even = omega (
      arith,
      ap gifts_in none,
      ap offers_in none,
      ap (origins_sum amount) no_done,
      ap (origins_sum amount) no_dead,
      ap (origins_sum amount) same,
    );
    few = omega arith;
  }
  lines_told policy before (turn ∷ turns) mades done dead after
      (here, more, is, ended, others, all_done, died, rest, all_dead, failed, between, one, are) =
      let told = line_told turn.reading turn.replies here failed one.events in
      let behind = lines_told policy between turns more others rest after are in record {
        even = omega (
          arith,
          ap gifts_in is,
          ap offers_in is,
          sum_by-append gifts_of here more,
          sum_by-append offers_of here more,
          ap (origins_sum amount) all_done,
          ap (origins_sum amount) all_dead,
          origins_append ended others,
          origins_append died rest,
          sum_by-append amount (begun_by turn.replies) (begun_in turns),
          told.offers_are,
          told.gifts_are,
          one.parted (λ (e : Element). amount e.origin),
          behind.even,
        );
        few = omega (
          arith,
          ap named_in is,
          sum_by-append named_of here more,
          told.begun_few,
          behind.few,
          sum_by-append amount (begun_by turn.replies) (begun_in turns),
        );
      }

  -- each job that was held at the end had had its last attempt, was offered again, or is lost
  module _ (policy : Policy) where
    spent_more : (element : Element) (held : List Element) → policy.attempts ≤ element.attempt
        → origins_sum amount (spent_of policy (element ∷ held)) ≡ amount element.origin + origins_sum amount (spent_of policy held)
    spent_more element held spent =
        ap (λ (b : Bool). origins_sum amount (cond b (element ∷ spent_of policy held) (spent_of policy held))) (passes spent)
        ∙ origins_cons element (spent_of policy held)
      where
        passes : policy.attempts ≤ element.attempt → nat_le policy.attempts element.attempt ≡ true
        passes h = grind (arith, nat_tests, h)

    spent_same : (element : Element) (held : List Element) → element.attempt < policy.attempts
        → origins_sum amount (spent_of policy (element ∷ held)) ≡ origins_sum amount (spent_of policy held)
    spent_same element held fewer =
        ap (λ (b : Bool). origins_sum amount (cond b (element ∷ spent_of policy held) (spent_of policy held))) (fails fewer)
      where
        fails : element.attempt < policy.attempts → nat_le policy.attempts element.attempt ≡ false
        fails h = grind (arith, nat_tests, h)

    closing_told : (held : List Element) (mades : List Made) (lost : List Element) → AreOfClosing policy held mades lost
        → (origins_sum amount held ≡ offers_in mades + origins_sum amount (spent_of policy held) + origins_sum amount lost)
        × (gifts_in mades ≡ 0)
    closing_told [] mades lost (none, nobody) =
        (omega (arith, ap offers_in none, ap (origins_sum amount) nobody), ap gifts_in none)
    closing_told (element ∷ held) mades lost (inl (spent, are)) =
        let (offers, gifts) = closing_told held mades lost are in
        (omega (arith, offers, origins_cons element held, spent_more element held spent), gifts)
    closing_told (element ∷ held) mades lost
        (inr (inl (again, first, more, is, replied, (origin, attempt, payload), fewer, are))) =
        let (offers, gifts) = closing_told held more lost are in (
          omega (
            arith,
            offers,
            origins_cons element held,
            spent_same element held fewer,
            ap offers_in is,
            sum_by-cons offers_of first more,
            ap (λ (r : Option Reply). origins_sum amount (offered_by r)) replied,
            origins_cons again [],
            ap amount origin,
          ),
          omega (
            arith,
            gifts,
            ap gifts_in is,
            sum_by-cons gifts_of first more,
            ap (λ (r : Option Reply). origins_sum amount (reply_elements r)) replied,
          ),
        )
    closing_told (element ∷ held) mades lost (inr (inr (more, is, fewer, are))) =
        let (offers, gifts) = closing_told held mades more are in (
          omega (
            arith,
            offers,
            origins_cons element held,
            spent_same element held fewer,
            ap (origins_sum amount) is,
            origins_cons element more,
          ),
          gifts,
        )

  -- the balance of a session
  pub run_told : {policy : Policy} {Over : Type 0} {served : Served} {Grows : List Made → Type 0}
      → (run : MadeByRun policy Over served Grows)
      → Balance (gifts_in (run.by_lines ++ run.by_closing)) (offers_in (run.by_lines ++ run.by_closing))
      (named_in (run.by_lines ++ run.by_closing)) (jobs_of amount run)
  run_told {policy = policy} run =
      let by_lines = lines_told policy [] run.lines run.by_lines run.done run.dead run.held run.of_lines in
      let by_closing = closing_told policy run.held run.by_closing run.lost run.of_closing in record {
        even = omega (
          arith,
          by_lines.even,
          by_closing.0,
          by_closing.1,
          sum_by-append offers_of run.by_lines run.by_closing,
          sum_by-append gifts_of run.by_lines run.by_closing,
        );
        few = omega (arith, by_lines.few, sum_by-append named_of run.by_lines run.by_closing);
      }

  -- elements that stand count as their ids do
  stand_sum : (bag : Bag) (elements : List Element) → ((element : Element) → IsAmong element elements → Stands bag element)
      → origins_sum amount elements ≡ sum_by (amount_at amount bag) (ids_of elements)
  stand_sum bag [] stand = refl
  stand_sum bag (first ∷ elements) stand =
      omega (
        arith,
        origins_cons first elements,
        sum_by-cons (amount_at amount bag) first.id (ids_of elements),
        ap (amount_of amount) (stand first (inl refl)),
        stand_sum bag elements (λ element among. stand element (inr among)),
      )

  -- an event of a legal history says by its reply what its act gives
  event_told : (opening : Opening) (front : List Event) (event : Event) → Allows (state_of opening front) event
      → origins_sum amount (reply_elements (reply_of opening (front ++ event ∷ [])))
      ≡ sum_by (amount_at amount (state_of opening front).queue.bag) (given (effect_of event.act))
  event_told opening front event allowed =
      elim (leaves_at opening front event allowed) [
        | inl (new, offers) ↦
            ap (λ (r : Option Reply). origins_sum amount (reply_elements r))
            (reply_last opening front event ∙ ap (reply_in (offered opening (front ++ event ∷ []))) offers)
            ∙ sym (ap (λ (act : Act). sum_by (amount_at amount (state_of opening front).queue.bag) (given (effect_of act)))
            offers)
        | inr leaves ↦
            ap (λ (r : Option Reply). origins_sum amount (reply_elements r))
            (reply_of_last opening front event leaves.reply leaves.told)
            ∙ ap (origins_sum amount) leaves.hands
            ∙ stand_sum (state_of opening front).queue.bag leaves.elements leaves.stand
            ∙ ap (sum_by (amount_at amount (state_of opening front).queue.bag)) (sym leaves.ids)
      ]

  events_told : (opening : Opening) (front events : List Event) → AllowsAll (state_of opening front) events
      → (offers_in (made_after opening front events) ≡ offered_sum amount events)
      × (gifts_in (made_after opening front events) ≡ given_sum_from amount (state_of opening front) events)
  events_told opening front [] all = (refl, refl)
  events_told opening front (event ∷ events) all =
      let here : Made = record { event = event; reply = reply_of opening (front ++ event ∷ []) } in
      let rest : List Made = made_after opening (front ++ event ∷ []) events in
      let after : state_of opening (front ++ event ∷ []) ≡ state_after (state_of opening front) event =
      state_from-append (start_of opening) front event in
      let others = events_told opening (front ++ event ∷ []) events (subst (λ s. AllowsAll s events) (sym after) all.1) in (
        omega (
          arith,
          ap (origins_sum amount) (offered_told opening front event all.0),
          others.0,
          sum_by-cons offers_of here rest,
          sum_by-cons (λ (e : Event). origins_sum amount (inserted (effect_of e.act))) event events,
        ),
        omega (
          arith,
          event_told opening front event all.0,
          others.1,
          ap (λ (s : State). given_sum_from amount s events) after,
          sum_by-cons gifts_of here rest,
        ),
      )

  -- the elements of an opening count as those that stand at the start
  pub start_sum : (elements : List Element) (end : ℕ) → AreInOrder elements end
      → sum_below (amount_at amount (bag_from elements)) end ≡ origins_sum amount elements
  start_sum [] end order = empty_sum amount (bag_from []) end (λ id. get-empty {X = Element} nat_cmp id)
  start_sum (first ∷ rest) end order =
      omega (
        arith,
        sum_inserted amount (bag_from rest) first end (order.below 0 (omega arith)) (absent (bags.get (bag_from rest) first.id) refl),
        start_sum rest end (rest_order first rest end order),
        origins_cons first rest,
      )
    where
      absent : (found : Option Element) → bags.get (bag_from rest) first.id ≡ found → bags.get (bag_from rest) first.id ≡ None
      absent None is = is
      absent (Some other) is =
          let named = named_from rest first.id other is in
          let (place, within, at) = place_among other rest
          (stands_among rest other (ap (bags.get (bag_from rest)) named ∙ is)) in
          let rises = order.rising 0 (suc place) (omega arith) (omega (arith, within)) in
          absurd (omega (arith, rises, at, named))

  -- so what was offered and given by a legal history's events accounts for what was there
  pub history_told : (opening : Opening) (history : List Event) → IsLegal opening history
      → origins_sum amount opening.elements + offers_in (made_after opening [] history)
      ≡ gifts_in (made_after opening [] history) + removed_sum amount opening history + cleared_sum amount opening history
      + waiting_sum amount (state_of opening history).queue
  history_told opening history legal =
      let told = events_told opening [] history legal in
      omega (
        arith,
        told.0,
        told.1,
        start_sum opening.elements opening.next_id opening.opening.order,
        sums_along amount (start_of opening) history legal (below_start opening),
      )

-- with 1 for each, the sums are numbers
ones : (elements : List Element) → origins_sum (λ origin. 1) elements ≡ length elements
ones [] = refl
ones (element ∷ elements) = omega (arith, ones elements, sum_by-cons (λ (e : Element). 1) element elements)

abbrev one_each : ℕ → ℕ
one_each origin = 1

amount_one : (bag : Bag) (id : ℕ) → IsSome (bags.get bag id) → amount_at one_each bag id ≡ 1
amount_one bag id there = of_value (bags.get bag id) there
  where
    of_value : (found : Option Element) → IsSome found → amount_of one_each found ≡ 1
    of_value None none = absurd (cc)
    of_value (Some element) some = refl

ones_taken : (bag : Bag) (ids : List ℕ) → AreTaken bag ids → sum_by (amount_at one_each bag) ids ≡ length ids
ones_taken bag [] taken = refl
ones_taken bag (id ∷ ids) (there, taken) =
    omega (
      arith,
      amount_one bag id there,
      taken_same one_each bag (bags.remove bag id) ids (λ other some. same_removed one_each bag id other some) taken,
      ones_taken (bags.remove bag id) ids taken,
      sum_by-cons (amount_at one_each bag) id ids,
    )

ones_given : (queue : Queue) (effect : Effect) → FitsIn queue effect
    → sum_by (amount_at one_each queue.bag) (given effect) ≡ length (given effect)
ones_given queue (inserts element) fits = refl
ones_given queue (gives ids) fits = ones_taken queue.bag ids fits
ones_given queue (removes ids) fits = refl
ones_given queue empties fits = refl

ones_along : (from : State) (events : List Event) → AllowsAll from events
    → (offered_sum one_each events ≡ offer_count events) × (given_sum_from one_each from events ≡ give_count events)
ones_along from [] all = (refl, refl)
ones_along from (event ∷ events) all =
    let others = ones_along (state_after from event) events all.1 in (
      omega (
        arith,
        others.0,
        ones (inserted (effect_of event.act)),
        sum_by-cons (λ (e : Event). origins_sum one_each (inserted (effect_of e.act))) event events,
        sum_by-cons (λ (e : Event). length (inserted (effect_of e.act))) event events,
      ),
      omega (
        arith,
        others.1,
        ones_given from.queue (effect_of event.act) (permitted_fits from.queue event.at event.act all.0.act),
        sum_by-cons (λ (e : Event). length (given (effect_of e.act))) event events,
      ),
    )

named_times : (id : ℕ) (elements : List Element) → named_sum (only id) elements ≡ times id (ids_of elements)
named_times id [] = refl
named_times id (first ∷ elements) =
    omega (
      arith,
      named_times id elements,
      sum_by-cons (λ (e : Element). only id e.id) first elements,
      times_cons id first.id (ids_of elements),
    )

-- how often a history's replies say that an id is offered
events_named : (id : ℕ) (opening : Opening) (front events : List Event) → AllowsAll (state_of opening front) events
    → named_in (only id) (made_after opening front events) ≡ offer_sum id events
events_named id opening front [] all = refl
events_named id opening front (event ∷ events) all =
    let here : Made = record { event = event; reply = reply_of opening (front ++ event ∷ []) } in
    let rest : List Made = made_after opening (front ++ event ∷ []) events in
    let after : state_of opening (front ++ event ∷ []) ≡ state_after (state_of opening front) event =
    state_from-append (start_of opening) front event in
    omega (
      arith,
      ap (named_sum (only id)) (offered_told opening front event all.0),
      named_times id (inserted (effect_of event.act)),
      events_named id opening (front ++ event ∷ []) events (subst (λ s. AllowsAll s events) (sym after) all.1),
      sum_by-cons (named_of (only id)) here rest,
      sum_by-cons (λ (e : Event). offers_of_id id (effect_of e.act)) event events,
    )

-- a history whose gifts and offers are those of sessions accounts for each job
pub accounts : (opening : Opening) (history : List Event) (jobs : (ℕ → ℕ) → JobSums) → IsLegal opening history
    → ((amount : ℕ → ℕ) → Balance (gifts_in amount (made_after opening [] history))
    (offers_in amount (made_after opening [] history)) (named_in amount (made_after opening [] history)) (jobs amount))
    → IsAccount opening history jobs
accounts opening history jobs legal sessions = record {
  numbers =
      let told = events_told one_each opening [] history legal in
      let counted = ones_along (start_of opening) history legal in
      omega (
        arith,
        (sessions one_each).even,
        told.0,
        told.1,
        counted.0,
        counted.1,
        is_balanced opening history legal,
      );
  origins = λ amount. omega (arith, (sessions amount).even, history_told amount opening history legal);
  once = λ are origin. omega (
    arith,
    (sessions (only origin)).few,
    begins_once origin opening history are legal,
    events_named origin opening [] history legal,
  );
}
