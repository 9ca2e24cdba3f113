-- How a call that does not wait for an element ends, and how many a desk over a shared queue has made.
use Rattle.std.proofs.Common.{◌≡◌, ◌≢◌, ◌+◌, ◌↔◌, Bool, Result, inr, ℕ, false, ◌≤◌, ◌==◌, [], refl, arith, length, length-drop, drop, Ok, Err}
use Rattle.std.proofs.lemmas.List.Sums.{length-filter, count_by-le-length}
use Rattle.rb_queue.specs.declared.ask.Ask.{Ask}
use Rattle.rb_queue.specs.declared.ask.Ask.TheVariants.{Offer, Take, PollFor}
use Rattle.rb_queue.specs.declared.draft.Draft.{Draft}
use Rattle.rb_delayed.specs.declared.element.Element.{Element}
use Rattle.rb_queue.specs.declared.event.Event.{Event}
use Rattle.rb_queue.specs.declared.reply.Reply.{Reply}
use Rattle.rb_kept.specs.declared.kept.TheConstants.{MOST_CALLS}
use Rattle.rb_kept.specs.declared.outcome.Outcome.TheVariants.{Done}
use Rattle.rb_kept.specs.declared.fault.CallFault.{CallFault}
use Rattle.rb_kept.specs.declared.fault.CallFault.TheVariants.{Full, Memory}
use Rattle.rb_lock.specs.Passes.{PassState, IsSoundPass, Learns}
use Rattle.rb_lock.specs.SharedCalls.{Answered}
use Rattle.rb_blocking.specs.WaitingCalls.{try_of}
use Rattle.rb_blocking.specs.RungOffers.{OfferAnswered}
use Rattle.rb_blocking.proofs.LearnedPasses.{learns_nothing}
use Rattle.rb_retry.specs.Made.{made_by}
use Rattle.rb_retry.specs.Asked.{IsMomentOf, MayWait, offer_answer}
use Rattle.rb_retry.specs.KeptSteps.{fault_of}
use Rattle.rb_shared_desk.specs.WaitRules.{WaitRules}
use Rattle.rb_retry.specs.declared.desk_fault.DeskFault.{DeskFault}
use Rattle.rb_retry.specs.declared.desk_fault.DeskFault.TheVariants.{Stopped}
use Rattle.rb_shared_desk.specs.SharedSteps.{SharedState, SharedSteps, Ends}
use Rattle.rb_shared_desk.specs.SharedLaws.{length_own}

-- no more were made than the pass has seen
pub few_through : (pass : PassState) (before : ℕ) → IsSoundPass pass → length (drop before (made_by pass.name pass.opening pass.seen)) ≤ MOST_CALLS
few_through pass before sound =
    omega (
      arith,
      sound.few,
      sound.most,
      length-drop before (made_by pass.name pass.opening pass.seen),
      length_own pass.name pass.opening [] pass.seen,
      length-filter (λ (event : Event). event.seat == pass.name) pass.seen,
      count_by-le-length (λ (event : Event). event.seat == pass.name) pass.seen,
    )

-- an ask that does not wait is made at the moment that is handed in
at_once : (gives : ℕ → Type 0) (ask : Ask) (handed : ℕ) → ask ≢ Take → ((start timeout : ℕ) → ask ≢ PollFor start timeout) → IsMomentOf gives ask handed handed
at_once gives Take handed no_take no_poll = absurd (no_take refl)
at_once gives (PollFor start timeout) handed no_take no_poll = absurd (no_poll start timeout refl)
at_once gives _ handed no_take no_poll = refl

module _ {C G : Type 0} (rules : WaitRules C G) (old new : SharedState C G) (handed : ℕ) (ask : Ask) where
  -- a refusal changes nothing
  pub ends_refused : (fault : CallFault) → new.gate ≡ old.gate → new.pass.tried ≡ old.pass.tried + 1
      → Answered old.pass new.pass (try_of old.pass handed ask) (Err fault)
      → Ends rules old old.pass handed ask (Err (fault_of fault)) new
  ends_refused Full gate tried (same, full) = (record { full = full; mine = same }, inr (gate, tried))
  ends_refused Memory gate tried (same, room, takes) = (same, room, takes, (gate, tried))

  -- a reply is that of one call more
  ends_replied : (reply : Reply) → ask ≢ Take → ((start timeout : ℕ) → ask ≢ PollFor start timeout)
      → new.gate ≡ old.gate → new.pass.tried ≡ old.pass.tried + 1
      → Answered old.pass new.pass (try_of old.pass handed ask) (Ok (Done reply))
      → Ends rules old old.pass handed ask (Ok reply) new
  ends_replied reply no_take no_poll gate tried replied =
      (handed, at_once (rules.gives old.clock) ask handed no_take no_poll, replied, inr (gate, tried))

  -- a call that began with no try in vain
  pub steps_at_once : (result : Result Reply DeskFault) → old.before ≤ length old.pass.mine → IsSoundPass old.pass
      → Learns old.pass new.pass → Ends rules old old.pass handed ask result new
      → ((turns : ℕ) (goes_on : Bool) → rules.answers new.gate turns goes_on ↔ rules.answers old.gate turns goes_on)
      → new ≡ record old { pass = new.pass; gate = new.gate } → SharedSteps rules old handed ask result new
  steps_at_once result earlier sound learns ends gate stays = record {
    earlier = earlier;
    sound = sound;
    learns = learns;
    misses = 0;
    start = old.pass;
    missed = refl;
    ends = ends;
    gate = gate;
    stays = stays;
  }

-- the gate let no wait begin, and nothing has changed
pub steps_kept_out : {C G : Type 0} (rules : WaitRules C G) (old : SharedState C G) (handed : ℕ) (ask : Ask)
    → old.before ≤ length old.pass.mine → IsSoundPass old.pass → MayWait ask → rules.answers old.gate 0 false
    → SharedSteps rules old handed ask (Err Stopped) old
steps_kept_out rules old handed ask earlier sound waits said =
    steps_at_once rules old old handed ask (Err Stopped) earlier sound (learns_nothing old.pass sound)
    (inr (record { waits = waits; stopped = said; mine = refl }, refl, refl)) (λ turns goes_on. ((λ told. told), (λ told. told))) refl

-- a call that can't wait is one try, which the gate does not see
pub steps_replied : {C G : Type 0} (rules : WaitRules C G) (old : SharedState C G) (new : PassState) (handed : ℕ) (ask : Ask)
    (reply : Reply) → old.before ≤ length old.pass.mine → IsSoundPass old.pass → Learns old.pass new
    → ask ≢ Take → ((start timeout : ℕ) → ask ≢ PollFor start timeout) → new.tried ≡ old.pass.tried + 1
    → Answered old.pass new (try_of old.pass handed ask) (Ok (Done reply))
    → SharedSteps rules old handed ask (Ok reply) (record old { pass = new })
steps_replied rules old new handed ask reply earlier sound learns no_take no_poll tried replied =
    let after = record old { pass = new } in
    steps_at_once rules old after handed ask (Ok reply) earlier sound learns
    (ends_replied rules old after handed ask reply no_take no_poll refl tried replied) (λ turns goes_on. ((λ told. told), (λ told. told))) refl

-- an offer ends as its call
ends_offered : {C G : Type 0} (rules : WaitRules C G) (old new : SharedState C G) (handed : ℕ) (draft : Draft)
    (result : Result Element CallFault) → new.gate ≡ old.gate → new.pass.tried ≡ old.pass.tried + 1
    → OfferAnswered old.pass new.pass (try_of old.pass handed (Offer draft)) result
    → Ends rules old old.pass handed (Offer draft) (offer_answer result) new
ends_offered rules old new handed draft (Ok element) gate tried replied = (handed, refl, replied, inr (gate, tried))
ends_offered rules old new handed draft (Err fault) gate tried refused =
    ends_refused rules old new handed (Offer draft) fault gate tried refused

pub steps_offered : {C G : Type 0} (rules : WaitRules C G) (old : SharedState C G) (new : PassState) (handed : ℕ) (draft : Draft)
    (result : Result Element CallFault) → old.before ≤ length old.pass.mine → IsSoundPass old.pass → Learns old.pass new
    → new.tried ≡ old.pass.tried + 1 → OfferAnswered old.pass new (try_of old.pass handed (Offer draft)) result
    → SharedSteps rules old handed (Offer draft) (offer_answer result) (record old { pass = new })
steps_offered rules old new handed draft result earlier sound learns tried offered =
    let after = record old { pass = new } in
    steps_at_once rules old after handed (Offer draft) (offer_answer result) earlier sound learns
    (ends_offered rules old after handed draft result refl tried offered) (λ turns goes_on. ((λ told. told), (λ told. told))) refl

-- what the tactics of `call` are given
pub ruleset call_endings = (few_through, ends_refused, steps_at_once)
