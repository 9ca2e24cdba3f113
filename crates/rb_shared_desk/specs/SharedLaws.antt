-- An answered call at a desk over a shared queue is one more event with its reply, and a refused one is
-- none. No public clause cites this module.
use Rattle.std.proofs.Common.{◌≡◌, ℕ, zero, ◌≤◌, ◌==◌, Bool, true, false, cond, List, [], ◌∷◌, ◌++◌, refl, sym, ap, subst}
use Rattle.std.proofs.Common.{◌∙◌, ◌⊎◌, inl, inr, arith, eq-eqb, Option, Some, Result, Ok, Err, length, length-append, drop, suc}
use Rattle.std.proofs.lemmas.List.{drop-append-le, nil_from_length, append-nil, append_cancel_right}
use Rattle.std.proofs.lemmas.List.Elements.{filter-append}
use Rattle.std.specs.Prelude.{filter}
use mathlib.Core.List.{IsPrefix}
use Rattle.rb_queue.specs.Counts.{events_of}
use Rattle.rb_queue.specs.declared.ask.Ask.{Ask}
use Rattle.rb_queue.specs.declared.event.Event.{Event}
use Rattle.rb_queue.specs.declared.opening.Opening.{Opening}
use Rattle.rb_queue.specs.declared.reply.Reply.{Reply}
use Rattle.rb_lock.specs.Passes.{PassState, IsSoundPass, Learns, log_at}
use Rattle.rb_lock.specs.SharedCalls.{Replied}
use Rattle.rb_lock.proofs.LongerHistories.{events_of-append}
use Rattle.rb_blocking.specs.GateSteps.{Sees}
use Rattle.rb_blocking.specs.WaitingCalls.{try_of, IsReading, IsStopped}
use Rattle.rb_blocking.specs.WaitLaws.{stopped_unmade}
use Rattle.rb_retry.specs.Made.{Made, made_after, made_by, GivesOnce}
use Rattle.rb_retry.specs.Asked.{MayGet, MayWait, IsMomentOf, Makes}
use Rattle.rb_retry.specs.RecordLaws.{recorded_reply, may_wait, made_after-more}
use Rattle.rb_retry.specs.GivenLaws.{times_given-drop, times_given-filter, legal_gives_once}
use Rattle.rb_shared_desk.specs.WaitRules.{WaitRules}
use Rattle.rb_shared_desk.specs.SharedSteps.{SharedState, SharedSteps, AreMisses, IsKeptOut, SetsShared, made_through, name_of}
use Rattle.rb_retry.specs.declared.desk_fault.DeskFault.{DeskFault}
use Rattle.rb_retry.specs.declared.desk_fault.DeskFault.TheVariants.{Full, Memory, Stopped}

-- one step of the count below
one_counted : {A B : Type 0} (own : Bool) (one : A) (ones : List A) (other : B) (others : List B)
    → length ones ≡ length others → length (cond own (one ∷ ones) ones) ≡ length (cond own (other ∷ others) others)
one_counted true one ones other others same = ap suc same
one_counted false one ones other others same = same

module _ (seat : ℕ) (opening : Opening) where
  -- what the seat made in these events, which follow the ones before
  abbrev made_next : List Event → List Event → List Made
  made_next before events = filter (λ (made : Made). made.event.seat == seat) (made_after opening before events)

  -- a seat has made as many calls as it has events
  pub length_own : (before events : List Event) → length (made_next before events) ≡ length (events_of events seat)
  length_own before [] = refl
  length_own before (event ∷ events) =
      one_counted (event.seat == seat) _ _ event (events_of events seat) (length_own (before ++ event ∷ []) events)

  -- the seat's events after a history follow those of the history
  made_by-more : (events more : List Event)
      → made_by seat opening (events ++ more) ≡ made_by seat opening events ++ made_next events more
  made_by-more events more = simp (made_after-more, filter-append)

  -- if a longer history has no more events of the seat, the seat made no more
  pub made_by-same : (events longer : List Event) → IsPrefix events longer
      → events_of longer seat ≡ events_of events seat → made_by seat opening longer ≡ made_by seat opening events
  made_by-same events longer (more, is) same =
      let counts = simp (← is, events_of-append, length-append) at (ap length same) in
      let none = nil_from_length (made_next events more) (omega (arith, length_own events more, counts)) in
      rw (← is, made_by-more events more, none) (append-nil (made_by seat opening events))

-- what a pass has made
abbrev pub own_of : PassState → List Made
own_of pass = made_by pass.name pass.opening pass.seen

module _ (old new : PassState) (sound : IsSoundPass old) (learns : Learns old new) where
  -- a pass that made no further call has made the same
  pub own_stays : new.mine ≡ old.mine → own_of new ≡ own_of old
  own_stays same =
      rw (learns.name, learns.opening) (made_by-same old.name old.opening old.seen new.seen learns.begins
      (ap (events_of new.seen) (sym learns.name) ∙ learns.sound.own ∙ same ∙ sym sound.own))

  -- an answered call is one more that was made
  own_grows : (asked : ℕ) (ask : Ask) (answer : Reply) (replied : Replied old new (try_of old asked ask) answer)
      → own_of new ≡ own_of old ++ record { event = replied.event; reply = Some answer } ∷ []
  own_grows asked ask answer replied =
      let event : Event = replied.event in
      let before : List Event = replied.before in
      let own : (event.seat == old.name) ≡ true = eq-eqb event.seat old.name replied.records.seat in
      let last : events_of (before ++ event ∷ []) old.name ≡ events_of before old.name ++ event ∷ [] =
      rw (events_of-append before (event ∷ []) old.name, own) refl in
      let whole : events_of (before ++ event ∷ []) old.name ≡ old.mine ++ event ∷ [] =
      rw (← replied.seen, ← learns.name) (learns.sound.own ∙ replied.mine) in
      let same : made_by old.name old.opening before ≡ own_of old =
      made_by-same old.name old.opening old.seen before replied.begins
      (append_cancel_right _ _ (event ∷ []) (sym last ∙ whole) ∙ sym sound.own) in
      rw (learns.name, learns.opening, replied.seen, made_by-more old.name old.opening before (event ∷ []))
      (rw (own, same, replied.records.reply) refl)

-- tries that found nothing made no call
pub misses_unmade : (old : PassState) (misses : ℕ) (new : PassState) → AreMisses old misses new → new.mine ≡ old.mine
misses_unmade old zero new same = ap (λ (pass : PassState). pass.mine) same
misses_unmade old (suc misses) new (mid, miss, missed) = misses_unmade mid misses new missed ∙ miss.mine

module _ {C G : Type 0} (rules : WaitRules C G) (old new : SharedState C G) (handed : ℕ) (ask : Ask) where
  -- what was made through the desk is what its pass has made since
  through : (result : Result Reply DeskFault) → SharedSteps rules old handed ask result new → (mades : List Made)
      → own_of new.pass ≡ mades → made_through new ≡ drop old.before mades
  through result steps mades is = ap made_through steps.stays ∙ ap (drop old.before) is

  -- if the pass made no further call, neither did the desk
  none_more : (result : Result Reply DeskFault) → SharedSteps rules old handed ask result new
      → new.pass.mine ≡ old.pass.mine → made_through new ≡ made_through old
  none_more result steps same =
      through result steps (own_of old.pass) (own_stays old.pass new.pass steps.sound steps.learns same)

  pub shared_makes : (answer : Reply) → SharedSteps rules old handed ask (Ok answer) new
      → Makes (rules.gives old.clock) handed ask answer (made_through old) (made_through new)
  shared_makes answer steps =
      let (asked, moment, replied, way) = steps.ends in
      let last : List Made = record { event = replied.event; reply = Some answer } ∷ [] in
      let own = length_own old.pass.name old.pass.opening [] old.pass.seen in
      let within : old.before ≤ length (own_of old.pass) = omega (arith, steps.earlier, own, ap length steps.sound.own) in
      record {
        event = replied.event;
        grows =
            through (Ok answer) steps (own_of old.pass ++ last)
            (own_grows old.pass new.pass steps.sound steps.learns asked ask answer replied)
            ∙ drop-append-le old.before (own_of old.pass) last within;
        of_ask = replied.records.act;
        asked = subst (IsMomentOf (rules.gives old.clock) ask handed) (sym replied.records.asked) moment;
        answered =
            recorded_reply (log_at old.pass replied.before) (try_of old.pass asked ask)
            answer replied.event replied.records;
      }

  -- the pass has seen a legal history, of which the desk made a part
  pub shared_gives_once : (answer : Reply) → SharedSteps rules old handed ask (Ok answer) new
      → GivesOnce (made_through new)
  shared_gives_once answer steps id =
      let seen : List Made = made_after new.pass.opening [] new.pass.seen in
      omega (
        arith,
        times_given-drop id new.before (own_of new.pass),
        times_given-filter id (λ (made : Made). made.event.seat == new.pass.name) seen,
        legal_gives_once new.pass.opening new.pass.seen steps.learns.sound.legal id,
      )

  -- a wait that was stopped made no call
  stops_unmade : (start : PassState) → start.mine ≡ old.pass.mine
      → IsStopped (IsReading rules.gives rules.reads old.clock) (rules.answers old.gate)
      (Sees rules.has_seen old.gate new.gate) start new.pass ask
      ⊎ (IsKeptOut (rules.answers old.gate) old.pass new.pass ask × (new.gate ≡ old.gate) × (new.pass ≡ start))
      → MayWait ask × (new.pass.mine ≡ old.pass.mine)
  stops_unmade start unmade (inl stopped) = (
    may_wait ask _ stopped.last.waits.waits,
    stopped_unmade (IsReading rules.gives rules.reads old.clock) (rules.answers old.gate)
        (Sees rules.has_seen old.gate new.gate) start new.pass ask stopped ∙ unmade,
  )
  stops_unmade start unmade (inr (kept_out, gate, same)) = (kept_out.waits, kept_out.mine)

  pub shared_refuses : (fault : DeskFault) → SharedSteps rules old handed ask (Err fault) new
      → MayGet ask fault × (made_through new ≡ made_through old)
  shared_refuses Full steps = (tt, none_more (Err Full) steps steps.ends.0.mine)
  shared_refuses Memory steps = (steps.ends.2, none_more (Err Memory) steps steps.ends.0)
  shared_refuses Stopped steps =
      let unmade = misses_unmade old.pass steps.misses steps.start steps.missed in
      let (waits, same) = stops_unmade steps.start unmade steps.ends in (waits, none_more (Err Stopped) steps same)

pub shared_stays : {C G : Type 0} (old new : SharedState C G) (moment : ℕ) (result : Option ℕ)
    → SetsShared old moment result new → made_through new ≡ made_through old
shared_stays old new moment result sets = ap made_through sets.1

-- what a pass learns changes none of what its desk is named by
pub shared_keeps_name : {C G : Type 0} (rules : WaitRules C G) (old new : SharedState C G) (asked : ℕ) (ask : Ask)
    (answer : Result Reply DeskFault) → SharedSteps rules old asked ask answer new → name_of new ≡ name_of old
shared_keeps_name rules old new asked ask answer steps =
    let learns : Learns old.pass new.pass = steps.learns in
    let reference : new.reference ≡ old.reference = ap (λ desk. desk.reference) steps.stays in
    cc

pub shared_sets_no_name : {C G : Type 0} (old new : SharedState C G) (moment : ℕ) (result : Option ℕ)
    → SetsShared old moment result new → name_of new ≡ name_of old
shared_sets_no_name old new moment result sets = ap name_of sets.1
