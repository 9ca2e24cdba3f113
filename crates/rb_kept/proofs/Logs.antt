-- One event more in a log: its moment, its reply, and its share of the totals.
use Rattle.std.proofs.Common.{◌≡◌, ◌≢◌, ℕ, suc, ◌+◌, ◌-◌, ◌<◌, ◌≤◌, List, [], ◌∷◌, ◌++◌, refl, sym, ap, subst, ◌∙◌, arith, Option, Some, length, length-append, append-nil, append_assoc, take, get_or}
use Rattle.std.proofs.lemmas.List.{take_more}
use Rattle.std.proofs.lemmas.List.Sums.{sum_by_push}
use Rattle.std.specs.Option.{option_map_or}
use Rattle.std.specs.Prelude.{slice_get, max, min, Result, Ok, Err}
use Rattle.std.specs.FinMap as map
use Rattle.rb_ledger.specs.Totals.{total_of}
use Rattle.rb_ledger.specs.declared.totals.Totals.{Totals}
use Rattle.rb_ledger.specs.declared.totals.TheConstants.{GREATEST_COUNT}
use Rattle.rb_queue.specs.declared.event.Event.{Event}
use Rattle.rb_queue.specs.declared.reply.Reply.{Reply}
use Rattle.rb_queue.specs.Bag.{NoneExpired}
use Rattle.rb_queue.specs.Head.{IsNextExpiry}
use Rattle.rb_queue.specs.Queue.{Queue}
use Rattle.rb_queue.specs.Effect.{effect_of, queue_after, inserted, given}
use Rattle.rb_queue.specs.Calls.{Acts, Permits}
use Rattle.rb_queue.specs.History.{State, start_of, state_after, state_from, state_of, Allows, IsLegal}
use Rattle.rb_queue.specs.Counts.{offer_count, give_count, sums_of, sums_with}
use Rattle.rb_queue.specs.declared.sums.Sums.{Sums}
use Rattle.rb_queue.specs.Replies.{reply_in}
use Rattle.rb_queue.proofs.Histories.{legal_next, state_from-append}
use Rattle.rb_queue.proofs.ShortHistories.{AreFew, are_few, sums_more}
use Rattle.rb_queue.proofs.OfferedElements.{reply_of_last}
use Rattle.rb_kept.specs.Log.{Log, state_at, HasRoom, with_event, with_events}
use Rattle.rb_kept.specs.KeptInvariant.{IsKept}
use Rattle.rb_kept.specs.Shares.{totals_of, amount_of, share_with, Grows}
use Rattle.rb_kept.specs.Tries.{IsActOf, WaitsPast, Records, Waits, StepsTo, StepsAlong}
use Rattle.rb_kept.specs.declared.tries.Try.{Try}
use Rattle.rb_kept.specs.declared.outcome.Outcome.{Outcome}
use Rattle.rb_kept.specs.declared.outcome.Outcome.TheVariants.{Done, Later}
use Rattle.rb_kept.specs.declared.fault.CallFault.{CallFault}
use Rattle.rb_kept.specs.declared.fault.CallFault.TheVariants.{Full, Memory}
use Rattle.rb_kept.specs.declared.kept.TheConstants.{MOST_CALLS}

-- the moment of the last of these events is the state's
pub moment_last : (from : State) (events : List Event) (last : Event) → slice_get events (length events - 1) ≡ Some last → (state_from from events).moment ≡ last.at
moment_last from [] last found = absurd (cc)
moment_last from (event ∷ []) last found = ap (λ (o : Option Event). option_map_or (λ (e : Event). e.at) o 0) found
moment_last from (event ∷ next ∷ events) last found =
    let at : length (event ∷ next ∷ events) - 1 ≡ suc (length (next ∷ events) - 1) = omega arith in
    let rest : slice_get (next ∷ events) (length (next ∷ events) - 1) ≡ Some last = sym (ap (slice_get (event ∷ next ∷ events)) at) ∙ found in
    moment_last (state_after from event) (next ∷ events) last rest

-- the event comes next: its moment is right, the queue did its act, and there is room for it
pub record IsNext (queue new : Queue) (log : Log) (event : Event) : Type 0 where
  pub at : event.at ≡ max event.asked (state_at log).moment
  pub acts : Acts queue event.at event.act new
  pub room : HasRoom log

-- a log that is not full has room
pub has_room : (log : Log) (len : ℕ) → (len ≡ log.capacity → ⊥) → len ≡ length log.history
    → length log.history ≤ log.capacity → HasRoom log
has_room log len free counted few =
    let off : length log.history ≢ log.capacity = λ full. free (counted ∙ full) in omega (arith, off, few)

-- what a call knows when it is about to append its event
pub is_next : (queue new : Queue) (log : Log) (event : Event) (last len : ℕ) (shown : List Event) → event.at ≡ max event.asked last → last ≡ (state_of log.opening shown).moment → shown ≡ log.history
    → (len ≡ log.capacity → ⊥) → len ≡ length log.history → length log.history ≤ log.capacity → Acts queue event.at event.act new → IsNext queue new log event
is_next queue new log event last len shown at found same free counted few acts = record {
  at = at ∙ ap (max event.asked) (found ∙ ap (λ (h : List Event). (state_of log.opening h).moment) same);
  acts = acts;
  room = has_room log len free counted few;
}

-- what a call knows when it would wait
pub would_wait : (queue : Queue) (log : Log) (try : Try) (now last : ℕ) (shown : List Event) (next : Option ℕ)
    → now ≡ max try.asked last → last ≡ (state_of log.opening shown).moment → shown ≡ log.history → (state_at log).queue ≡ queue
    → WaitsPast try.ask now → NoneExpired queue.bag now → IsNextExpiry queue.bag next → Waits log try next
would_wait queue log try now last shown next at found same leads waits none is_next =
    let moment : now ≡ max try.asked (state_at log).moment =
    at ∙ ap (max try.asked) (found ∙ ap (λ (h : List Event). (state_of log.opening h).moment) same) in
    record {
      waits = subst (λ (m : ℕ). WaitsPast try.ask m) moment waits;
      none = subst (λ (q : Queue). NoneExpired q.bag (max try.asked (state_at log).moment)) (sym leads)
          (subst (λ (m : ℕ). NoneExpired queue.bag m) moment none);
      next = subst (λ (q : Queue). IsNextExpiry q.bag next) (sym leads) is_next;
    }

module _ (queue new : Queue) (log : Log) (event : Event) (space : ℕ) (books : Totals) (sums : Sums) (kept : IsKept queue log space books sums)
    (next : IsNext queue new log event) where
  -- the state of the log allows the event
  allowed : Allows (state_at log) event
  allowed = record { moment = next.at; act = subst (λ q. Permits q event.at event.act) (sym kept.leads) next.acts.permitted }

  legal_more : IsLegal log.opening (with_event log event).history
  legal_more = legal_next log.opening log.history event kept.legal allowed

  short_more : length (with_event log event).history ≤ MOST_CALLS
  short_more = omega (arith, length-append log.history (event ∷ []), next.room, kept.most)

  -- the books with the event
  booked_more : total_of books (amount_of event) ≡ totals_of (with_event log event).history
  booked_more =
      let few : AreFew log.opening (with_event log event).history = are_few log.opening (with_event log event).history legal_more short_more in
      let offers = sum_by_push (λ e. length (inserted (effect_of e.act))) log.history event in
      let gives_out = sum_by_push (λ e. length (given (effect_of e.act))) log.history event in
      let calls : min (length log.history + 1) GREATEST_COUNT ≡ length (log.history ++ event ∷ []) =
      omega (arith, length-append log.history (event ∷ []), next.room, kept.most) in
      let offered : min (offer_count log.history + length (inserted (effect_of event.act))) GREATEST_COUNT ≡ offer_count (log.history ++ event ∷ []) =
      omega (arith, offers, few.offered) in
      let given_out : min (give_count log.history + length (given (effect_of event.act))) GREATEST_COUNT ≡ give_count (log.history ++ event ∷ []) =
      omega (arith, gives_out, few.given) in
      ap (λ (t : Totals). total_of t (amount_of event)) kept.booked ∙ (λ i. record { calls = calls i; offered = offered i; given = given_out i })

  -- the sums with the event
  summed_more : sums_with sums event.act (map.len queue.bag) ≡ sums_of log.opening (with_event log event).history
  summed_more = sums_more log.opening log.history event queue sums legal_more short_more kept.leads kept.summed

  -- what is kept true stays true with one event more
  pub kept_more : (items : List Event) (books' : Totals) (sums' : Sums) → items ≡ log.history ++ event ∷ [] → books' ≡ total_of books (amount_of event)
      → sums' ≡ sums_with sums event.act (map.len queue.bag) → IsKept new (record log { history = items }) space books' sums'
  kept_more items books' sums' is booked summed =
      subst (λ (h : List Event). IsKept new (record log { history = h }) space books' sums') (sym is)
      (record {
        legal = legal_more;
        leads = ap (λ (s : State). s.queue) (state_from-append (start_of log.opening) log.history event)
            ∙ ap (λ q. queue_after q (effect_of event.act)) kept.leads ∙ sym next.acts.after;
        few = omega (arith, length-append log.history (event ∷ []), next.room);
        room = kept.room;
        most = kept.most;
        booked = booked ∙ booked_more;
        summed = summed ∙ summed_more;
      })

  -- the event is the try's, and has the reply that its act names in the queue before
  pub recorded : (try : Try) (reply : Reply) → event.seat ≡ try.seat → event.asked ≡ try.asked → IsActOf try.ask event.act → reply_in queue.bag event.act ≡ Some reply → Records log try reply event
  recorded try reply seat asked of_ask named = record {
    seat = seat;
    asked = asked;
    act = of_ask;
    legal = legal_more;
    reply = reply_of_last log.opening log.history event reply (ap (λ (q : Queue). reply_in q.bag event.act) kept.leads ∙ named);
  }

-- a share with more events behind others
share_with-append : (share : Totals) (events more : List Event) → share_with share (events ++ more) ≡ share_with (share_with share events) more
share_with-append share [] more = refl
share_with-append share (event ∷ events) more = share_with-append (total_of share (amount_of event)) events more

-- to grow by nothing, and to grow further
pub grows_none : (log : Log) (share : Totals) → Grows log log share share
grows_none log share = record { more = []; log = ap (λ (h : List Event). record log { history = h }) (sym (append-nil log.history)); share = refl }

pub grows_on : (old between new : Log) (before middle after : Totals) → Grows old between before middle → Grows between new middle after → Grows old new before after
grows_on old between new before middle after one other = record {
  more = one.more ++ other.more;
  log = other.log ∙ ap (λ (l : Log). with_events l other.more) one.log ∙ ap (λ (h : List Event). record old { history = h }) (append_assoc old.history one.more other.more);
  share = other.share ∙ ap (λ (t : Totals). share_with t other.more) one.share ∙ sym (share_with-append before one.more other.more);
}

-- a step more for a try more
StepsAlong-append : (old between new : Log) (tries : List Try) (steps : List (Result Outcome CallFault)) (try : Try) (step : Result Outcome CallFault)
    → StepsAlong old tries steps between → StepsTo between try step new → StepsAlong old (tries ++ try ∷ []) (steps ++ step ∷ []) new
StepsAlong-append old between new [] [] try step along one = (new, subst (λ (l : Log). StepsTo l try step new) along one, refl)
StepsAlong-append old between new (first ∷ tries) (done ∷ steps) try step (mid, here, rest) one =
    (mid, here, StepsAlong-append mid between new tries steps try step rest one)
StepsAlong-append old between new [] (done ∷ steps) try step along one = absurd along
StepsAlong-append old between new (first ∷ tries) [] try step along one = absurd along

-- the steps for one try more of a list
pub StepsAlong-more : (old between new : Log) (tries : List Try) (steps : List (Result Outcome CallFault)) (i : ℕ) (try : Try) (step : Result Outcome CallFault)
    → i < length tries → try ≡ get_or tries i try
    → StepsAlong old (take i tries) steps between → StepsTo between try step new → StepsAlong old (take (i + 1) tries) (steps ++ step ∷ []) new
StepsAlong-more old between new tries steps i try step within is along one =
    let more : take (i + 1) tries ≡ take i tries ++ try ∷ [] = take_more tries i try within ∙ ap (λ t. take i tries ++ t ∷ []) (sym is) in
    subst (λ ts. StepsAlong old ts (steps ++ step ∷ []) new) (sym more)
    (StepsAlong-append old between new (take i tries) steps try step along one)

abbrev IsLegalLog : Log → Type 0
IsLegalLog log = IsLegal log.opening log.history

-- a step keeps the history legal
legal_step : (old new : Log) (try : Try) (step : Result Outcome CallFault) → StepsTo old try step new → IsLegalLog old → IsLegalLog new
legal_step old new try (Ok (Done reply)) (room, (event, is, records)) legal = subst IsLegalLog (sym is) records.legal
legal_step old new try (Ok (Later next)) (room, (waits, is)) legal = subst IsLegalLog (sym is) legal
legal_step old new try (Err Full) (full, is) legal = subst IsLegalLog (sym is) legal
legal_step old new try (Err Memory) (room, takes, is) legal = subst IsLegalLog (sym is) legal

pub legal_along : (old new : Log) (tries : List Try) (steps : List (Result Outcome CallFault)) → StepsAlong old tries steps new → IsLegal old.opening old.history → IsLegal new.opening new.history
legal_along old new [] [] is legal = subst IsLegalLog (sym is) legal
legal_along old new (try ∷ tries) (step ∷ steps) (between, here, rest) legal =
    legal_along between new tries steps rest (legal_step old between try step here legal)
legal_along old new [] (step ∷ steps) along legal = absurd along
legal_along old new (try ∷ tries) [] along legal = absurd along
