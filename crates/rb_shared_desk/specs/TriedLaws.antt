-- A call after a try that found nothing is a call from before that. No public clause cites this module.
use Rattle.std.proofs.Common.{◌≡◌, ℕ, zero, suc, drop, Result, Ok, Err}
use Rattle.std.proofs.Common.{refl, sym, ap, subst, ◌∙◌, inl, inr, ◌↔◌}
use Rattle.rb_queue.specs.declared.ask.Ask.{Ask}
use Rattle.rb_queue.specs.declared.ask.Ask.TheVariants.{Take, PollFor}
use Rattle.rb_queue.specs.declared.reply.Reply.{Reply}
use Rattle.rb_lock.specs.Passes.{PassState, Learns}
use Rattle.rb_blocking.proofs.LearnedPasses.{learns_on, replied_after}
use Rattle.rb_retry.specs.Asked.{MayWait, IsMomentOf}
use Rattle.rb_retry.specs.declared.desk_fault.DeskFault.{DeskFault}
use Rattle.rb_retry.specs.declared.desk_fault.DeskFault.TheVariants.{Full, Memory, Stopped}
use Rattle.rb_shared_desk.specs.WaitRules.{WaitRules}
use Rattle.rb_shared_desk.specs.SharedSteps.{SharedState, SharedSteps, TriesShared, MissesShared, Ends, TryEnds}
use Rattle.rb_shared_desk.specs.SharedSteps.{made_through, name_of}
use Rattle.rb_shared_desk.specs.SharedLaws.{own_stays}

module _ {C G : Type 0} (rules : WaitRules C G) where
  -- a reading of the clock is the moment of a call that may wait
  moment_of : (gives : ℕ → Type 0) (ask : Ask) (handed asked : ℕ) → MayWait ask → gives asked → IsMomentOf gives ask handed asked
  moment_of gives Take handed asked waits read = read
  moment_of gives (PollFor start timeout) handed asked waits read = read
  moment_of gives _ handed asked waits read = absurd waits

  ends_of : (old new : SharedState C G) (asked handed : ℕ) (ask : Ask) (answer : Result Reply DeskFault) → MayWait ask
      → rules.gives old.clock asked → new.gate ≡ old.gate → TryEnds rules old asked ask answer new
      → Ends rules old old.pass handed ask answer new
  ends_of old new asked handed ask (Ok reply) waits read gate (replied, tried) =
      (asked, moment_of (rules.gives old.clock) ask handed asked waits read, replied, inr (gate, tried))
  ends_of old new asked handed ask (Err Full) waits read gate (full, tried) = (full, inr (gate, tried))
  ends_of old new asked handed ask (Err Memory) waits read gate never = absurd never
  ends_of old new asked handed ask (Err Stopped) waits read gate (kept_out, same) = inr (kept_out, gate, same)

  -- what is answered by one try is a call
  pub shared_tries_once : (old new : SharedState C G) (asked handed : ℕ) (ask : Ask) (answer : Result Reply DeskFault)
      → MayWait ask → rules.gives old.clock asked → TriesShared rules old asked ask answer new
      → SharedSteps rules old handed ask answer new
  shared_tries_once old new asked handed ask answer waits read tries = record {
    earlier = tries.earlier;
    sound = tries.sound;
    learns = tries.learns;
    misses = zero;
    start = old.pass;
    missed = refl;
    ends = ends_of old new asked handed ask answer waits read same_gate tries.ends;
    gate = λ turns goes_on.
        subst (λ (gate : G). rules.answers gate turns goes_on ↔ rules.answers old.gate turns goes_on)
        (sym same_gate) ((λ told. told), (λ told. told));
    stays = tries.stays ∙ ap (λ (gate : G). record old { pass = new.pass; gate = gate }) (sym same_gate);
  }
    where
      same_gate : new.gate ≡ old.gate
      same_gate = ap (λ (state : SharedState C G). state.gate) tries.stays

  module _ (old mid : SharedState C G) (missed : MissesShared old mid) where
    ends_after : (start : PassState) (new : SharedState C G) (handed : ℕ) (ask : Ask) (answer : Result Reply DeskFault)
        → Ends rules (record old { pass = mid.pass }) start handed ask answer new
        → Ends rules old start handed ask answer new
    ends_after start new handed ask (Ok reply) (asked, moment, replied, way) =
        (asked, moment, replied_after old.pass mid.pass missed.miss.learns missed.miss.mine ask asked reply new.pass replied, way)
    ends_after start new handed ask (Err Full) (full, way) =
        (record { full = full.full; mine = full.mine ∙ missed.miss.mine }, way)
    ends_after start new handed ask (Err Memory) (same, room, takes, tried) = (same ∙ missed.miss.mine, room, takes, tried)
    ends_after start new handed ask (Err Stopped) (inl stopped) = inl stopped
    ends_after start new handed ask (Err Stopped) (inr (kept_out, gate, same)) = inr (
      record { waits = kept_out.waits; stopped = kept_out.stopped; mine = kept_out.mine ∙ missed.miss.mine },
      gate,
      same,
    )

    steps_after : (new : SharedState C G) (handed : ℕ) (ask : Ask) (answer : Result Reply DeskFault)
        → SharedSteps rules (record old { pass = mid.pass }) handed ask answer new → SharedSteps rules old handed ask answer new
    steps_after new handed ask answer steps = record {
      earlier = missed.earlier;
      sound = missed.sound;
      learns = learns_on old.pass mid.pass new.pass missed.miss.learns steps.learns;
      misses = suc steps.misses;
      start = steps.start;
      missed = (mid.pass, missed.miss, steps.missed);
      ends = ends_after steps.start new handed ask answer steps.ends;
      gate = steps.gate;
      stays = steps.stays;
    }

    -- a call after a try that found nothing is a call from before it
    pub shared_tries_again : (new : SharedState C G) (handed : ℕ) (ask : Ask) (answer : Result Reply DeskFault)
        → SharedSteps rules mid handed ask answer new → SharedSteps rules old handed ask answer new
    shared_tries_again new handed ask answer steps =
        steps_after new handed ask answer
        (subst (λ (from : SharedState C G). SharedSteps rules from handed ask answer new) missed.stays steps)

-- a try that found nothing made no event
pub shared_misses : {C G : Type 0} (old new : SharedState C G) → MissesShared old new → made_through new ≡ made_through old
shared_misses old new missed =
    ap made_through missed.stays ∙ ap (drop old.before) (own_stays old.pass new.pass missed.sound missed.miss.learns missed.miss.mine)

pub shared_misses_no_name : {C G : Type 0} (old new : SharedState C G) → MissesShared old new → name_of new ≡ name_of old
shared_misses_no_name old new missed =
    let learns : Learns old.pass new.pass = missed.miss.learns in
    let reference : new.reference ≡ old.reference = ap (λ desk. desk.reference) missed.stays in
    cc
