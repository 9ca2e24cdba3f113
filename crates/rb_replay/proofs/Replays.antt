-- A history that is done again, event by event.
use Rattle.std.proofs.Common.{◌≡◌, ℕ, suc, ◌+◌, ◌-◌, ◌^◌, ◌<◌, ◌≤◌, List, [], ◌∷◌, ◌++◌, length, take, drop, get_or, sym, ap, subst, ◌∙◌, arith, Some, None, Err, inl, inr, length-append}
use Rattle.std.proofs.lemmas.List.{take_more, take-append-drop, length-take}
use Rattle.std.proofs.lemmas.List.Sums.{sum_by_more_le}
use Rattle.std.proofs.Math.Seq.{drop-cons}
use Rattle.std.specs.Prelude.{IsSomeAnd, is_some, sum_by}
use Rattle.std.specs.FinMap as map
use Rattle.rb_queue.specs.Bag.{Bag, NoneExpired, without}
use Rattle.rb_queue.specs.Head.{IsLeast, IsHeadId}
use Rattle.rb_queue.specs.Queue.{Queue}
use Rattle.rb_queue.specs.Effect.{effect_of, inserted, given}
use Rattle.rb_queue.specs.Calls.{AreHeads, Permits}
use Rattle.rb_queue.specs.Counts.{offer_count, give_count}
use Rattle.rb_queue.specs.History.{State, start_of, state_after, state_of, Allows, IsLegal}
use Rattle.rb_queue.specs.declared.act.Act.{Act}
use Rattle.rb_queue.specs.declared.act.Act.TheVariants.{Poll, Take, PollFor, Peek, Drain, Clear}
use Rattle.rb_queue.specs.declared.event.Event.{Event}
use Rattle.rb_queue.specs.declared.opening.Opening.{Opening}
use Rattle.rb_queue.proofs.Histories.{legal_next, state_from-append, next_id_few}
use Rattle.rb_queue.proofs.ShortHistories.{are_few, sums_more}
use Rattle.rb_queue.proofs.Options.{has_and, value_and}
use Rattle.rb_replay.specs.declared.reason.Reason.{Reason}
use Rattle.rb_replay.specs.declared.judge.JudgeFault.{JudgeFault}
use Rattle.rb_replay.specs.declared.judge.JudgeFault.TheVariants.{Refused, Memory}
use Rattle.rb_replay.specs.Refusal.{Test, NoTest, HeadTests, LeastTests, DrainTests, ActTests, EventTests}
use Rattle.rb_replay.specs.declared.replay.End.{End}
use Rattle.rb_replay.specs.Replaying.{fault_at, Repeats, ReplaysEvent, IsEndOf, Replays}

-- a single test that fails does not hold
one_fails : (holds : Type 0) (named reason : Reason) → Test holds named NoTest reason → ¬ holds
one_fails holds named reason (inl (off, is)) h = off h
one_fails holds named reason (inr (on, none)) h = absurd none

-- tests of a head that fail, with nothing behind them, leave no head
head_fails : (bag : Bag) (now id : ℕ) (reason : Reason) → HeadTests bag now id NoTest reason → ¬ IsHeadId bag now id
head_fails bag now id reason (inl (off, is)) head = let (element, there, fact) = value_and (map.get bag id) _ head in off (ap is_some there)
head_fails bag now id reason (inr (on, inl (off, is))) head =
    let (element, there, fact) = value_and (map.get bag id) _ head in off (has_and (map.get bag id) (IsLeast bag) element there fact.least)
head_fails bag now id reason (inr (on, inr (least, inl (off, is)))) head = off head
head_fails bag now id reason (inr (on, inr (least, inr (is, none)))) head = absurd none

least_fails : (bag : Bag) (id : ℕ) (reason : Reason) → LeastTests bag id NoTest reason → ¬ IsSomeAnd (map.get bag id) (IsLeast bag)
least_fails bag id reason (inl (off, is)) least = let (element, there, fact) = value_and (map.get bag id) _ least in off (ap is_some there)
least_fails bag id reason (inr (on, inl (off, is))) least = off least
least_fails bag id reason (inr (on, inr (is, none))) least = absurd none

-- a drain whose tests fail is none
drain_refused : (bag : Bag) (now : ℕ) (fewer : Type 0) (ids : List ℕ) (reason : Reason) → DrainTests bag now fewer ids reason
    → AreHeads bag now ids → (fewer → NoneExpired (without bag ids) now) → ⊥
drain_refused bag now fewer [] reason fails heads all = one_fails _ _ _ fails all
drain_refused bag now fewer (id ∷ ids) reason (inl (off, is)) heads all = head_fails bag now id reason (inl (off, is)) heads.0
drain_refused bag now fewer (id ∷ ids) reason (inr (on, inl (off, is))) heads all = head_fails bag now id reason (inr (on, inl (off, is))) heads.0
drain_refused bag now fewer (id ∷ ids) reason (inr (on, inr (least, inl (off, is)))) heads all = off heads.0
drain_refused bag now fewer (id ∷ ids) reason (inr (on, inr (least, inr (is, fails)))) heads all =
    drain_refused (map.remove bag id) now fewer ids reason fails heads.1 all

-- an act whose tests fail is not permitted
act_refused : (queue : Queue) (now : ℕ) (act : Act) (reason : Reason) → ActTests queue now act reason → ¬ Permits queue now act
act_refused queue now (Poll (Some id)) reason fails = head_fails queue.bag now id reason fails
act_refused queue now (Take id) reason fails = head_fails queue.bag now id reason fails
act_refused queue now (PollFor start timeout (Some id)) reason fails = head_fails queue.bag now id reason fails
act_refused queue now (PollFor start timeout None) reason (inl (off, is)) = λ h. off h.0
act_refused queue now (PollFor start timeout None) reason (inr (on, fails)) = λ h. one_fails _ _ _ fails h.1
act_refused queue now (Peek (Some id)) reason fails = least_fails queue.bag id reason fails
act_refused queue now (Drain max ids) reason (inl (off, is)) = λ h. off h.at_most
act_refused queue now (Drain max ids) reason (inr (on, fails)) = λ h. drain_refused queue.bag now _ ids reason fails h.heads h.all
act_refused queue now Clear reason fails = absurd fails
act_refused queue now act reason fails = one_fails _ _ _ fails

pub event_refused : (state : State) (event : Event) (reason : Reason) → EventTests state event reason → ¬ Allows state event
event_refused state event reason (inl (off, is)) = λ h. off h.moment
event_refused state event reason (inr (on, fails)) = λ h. act_refused state.queue event.at event.act reason fails h.act

-- the end after one event more
pub end_more : (opening : Opening) (events : List Event) (i : ℕ) (event : Event) (old new : End) → length events ≤ 1_000_000 → i < length events → event ≡ get_or events i event
    → IsEndOf opening (take i events) old → Repeats old event new → IsEndOf opening (take (i + 1) events) new
end_more opening events i event old new few within is so_far repeats =
    let more : take (i + 1) events ≡ take i events ++ event ∷ [] = take_more events i event within ∙ ap (λ e. take i events ++ e ∷ []) (sym is) in
    let legal = legal_next opening (take i events) event so_far.legal (subst (λ s. Allows s event) so_far.state repeats.allowed) in
    let short : length (take i events ++ event ∷ []) ≤ 1_000_000 = omega (arith, length-append (take i events) (event ∷ []), length-take i events, within, few) in
    let leads = ap (λ (s : State). s.queue) (sym so_far.state) in
    subst (λ front. IsEndOf opening front new) (sym more) (record {
      legal = legal;
      state = repeats.state ∙ ap (λ s. state_after s event) so_far.state ∙ sym (state_from-append (start_of opening) (take i events) event);
      sums = repeats.sums ∙ sums_more opening (take i events) event old.queue old.sums legal short leads so_far.sums;
    })

-- an event is refused
pub end_refuses : (opening : Opening) (events : List Event) (i : ℕ) (event : Event) (old new : End) (fault : JudgeFault)
    → i < length events → event ≡ get_or events i event
    → IsEndOf opening (take i events) old → ReplaysEvent {X = Unit {0}} old event (Err fault) new → Replays opening events (Err (fault_at i fault))
end_refuses opening events i event old new Memory within is so_far fails = tt
end_refuses opening events i event old new (Refused reason) within is so_far fails =
    let here : EventTests (state_of opening (take i events)) event reason = subst (λ s. EventTests s event reason) so_far.state fails in
    record {
      front = take i events;
      event = event;
      behind = drop (suc i) events;
      split = sym (take-append-drop i events) ∙ ap (λ t. take i events ++ t) (drop-cons events i event within)
          ∙ ap (λ e. take i events ++ e ∷ drop (suc i) events) (sym is);
      placed = length-take i events ∙ omega (arith, within);
      legal = so_far.legal;
      refused = event_refused _ event reason here;
      first = here;
    }

-- a sum over the events so far and the next one is at most that over all
part : (f : Event → ℕ) (events : List Event) (i : ℕ) (event : Event) → i < length events → event ≡ get_or events i event
    → sum_by f (take i events) + f event ≤ sum_by f events
part f events i event within is =
    subst (λ e. sum_by f (take i events) + f e ≤ sum_by f events) (sym is) (sum_by_more_le f events i event within)

pub offers_fit : (opening : Opening) (events : List Event) (i : ℕ) (event : Event) → IsLegal opening events → length events ≤ 1_000_000
    → i < length events → event ≡ get_or events i event → offer_count (take i events) + length (inserted (effect_of event.act)) < 2 ^ 64
offers_fit opening events i event legal few within is =
    let all = are_few opening events legal few in
    omega (arith, part (λ e. length (inserted (effect_of e.act))) events i event within is, all.offered)

pub gives_fit : (opening : Opening) (events : List Event) (i : ℕ) (event : Event) → IsLegal opening events → length events ≤ 1_000_000
    → i < length events → event ≡ get_or events i event → give_count (take i events) + length (given (effect_of event.act)) < 2 ^ 64
gives_fit opening events i event legal few within is =
    let all = are_few opening events legal few in
    omega (arith, part (λ e. length (given (effect_of e.act))) events i event within is, all.given)

-- the next id is far from the last number
pub ids_left : (opening : Opening) (events : List Event) (i : ℕ) (end : End) → length events ≤ 1_000_000
    → IsEndOf opening (take i events) end → end.queue.next_id < 2 ^ 64 - 1
ids_left opening events i end few so_far =
    omega (arith, ap (λ (s : State). s.queue.next_id) so_far.state, next_id_few (start_of opening) (take i events), length-take i events, opening.opening.next, few)
