-- What a run of a session at a desk over a shared queue, such as that of a visit, adds to the calls of its pass.
use Rattle.std.proofs.Common.{◌≡◌, ℕ, List, ◌++◌, Option, Result, Ok, Err, sym, ap, ◌∙◌, arith}
use Rattle.std.specs.Io.KnownBytes.{IsAtEnd}
use Rattle.rb_queue.specs.declared.ask.Ask.{Ask}
use Rattle.rb_queue.specs.declared.reply.Reply.{Reply}
use Rattle.rb_lock.specs.Passes.{PassState}
use Rattle.rb_retry.specs.Asked.{Makes, MayGet}
use Rattle.rb_retry.specs.Made.{Made}
use Rattle.rb_retry.specs.declared.desk_fault.DeskFault.{DeskFault}
use Rattle.rb_retry.specs.declared.desk_fault.DeskFault.TheVariants.{Full, Memory, Stopped}
use Rattle.rb_retry.specs.declared.policy.Policy.{Policy}
use Rattle.rb_session.specs.Ran.{Ran}
use Rattle.rb_jobs.specs.RunEvents.{MadeByRun}
use Rattle.rb_session.specs.declared.delivery.Delivery.{Delivery}
use Rattle.rb_session.specs.Rules.{HadGotBehind, session_rules}
use Rattle.rb_session.specs.Served.{Served}
use Rattle.rb_jobs.specs.ServerEvents.{CallsByVisit, made_of}
use Rattle.rb_serving.specs.Terms.{Terms}
use Rattle.rb_serving.specs.Visits.{shared_rules, visit_waits}
use Rattle.rb_jobs.proofs.RunEvents.{ends_of, grows_so, made_by_ends}
use Rattle.rb_shared_desk.specs.WaitRules.{WaitRules}
use Rattle.rb_shared_desk.specs.SharedSteps.{SharedState, SharedSteps, MissesShared, SetsShared, Ends, made_through}
use Rattle.rb_shared_desk.specs.SharedLaws.{shared_makes, shared_refuses}
use Rattle.rb_shared_desk.specs.TriedLaws.{shared_misses}

module _ {C G : Type 0} where
  -- the desk as if it had been made before the pass's first call
  abbrev pub whole : SharedState C G → SharedState C G
  whole desk = record desk { before = 0 }

  -- all that the desk's pass made
  abbrev pub whole_mine : SharedState C G → List Made
  whole_mine desk = made_through (whole desk)

  module _ (waits : WaitRules C G) where
    -- the readings of the desk's clock
    abbrev pub desk_gives : SharedState C G → ℕ → Type 0
    desk_gives desk moment = waits.gives desk.clock moment

    ends_whole : (old new : SharedState C G) (start : PassState) (handed : ℕ) (ask : Ask) (result : Result Reply DeskFault)
        → Ends waits old start handed ask result new → Ends waits (whole old) start handed ask result (whole new)
    ends_whole old new start handed ask (Ok reply) ends = ends
    ends_whole old new start handed ask (Err Full) ends = ends
    ends_whole old new start handed ask (Err Memory) ends = ends
    ends_whole old new start handed ask (Err Stopped) ends = ends

    steps_whole : (old new : SharedState C G) (handed : ℕ) (ask : Ask) (result : Result Reply DeskFault)
        → SharedSteps waits old handed ask result new → SharedSteps waits (whole old) handed ask result (whole new)
    steps_whole old new handed ask result steps = record {
      earlier = omega arith;
      sound = steps.sound;
      learns = steps.learns;
      misses = steps.misses;
      start = steps.start;
      missed = steps.missed;
      ends = ends_whole old new steps.start handed ask result steps.ends;
      gate = steps.gate;
      stays = ap whole steps.stays;
    }

    pub makes_whole : (old new : SharedState C G) (asked : ℕ) (ask : Ask) (reply : Reply) → SharedSteps waits old asked ask (Ok reply) new
        → Makes (desk_gives old) asked ask reply (whole_mine old) (whole_mine new)
    makes_whole old new asked ask reply steps =
        shared_makes waits (whole old) (whole new) asked ask reply (steps_whole old new asked ask (Ok reply) steps)

    pub refuses_whole : (old new : SharedState C G) (asked : ℕ) (ask : Ask) (fault : DeskFault) → SharedSteps waits old asked ask (Err fault) new
        → MayGet ask fault × (whole_mine new ≡ whole_mine old)
    refuses_whole old new asked ask fault steps =
        shared_refuses waits (whole old) (whole new) asked ask fault (steps_whole old new asked ask (Err fault) steps)

    pub stays_whole : (old new : SharedState C G) (moment : ℕ) (result : Option ℕ) → SetsShared old moment result new → whole_mine new ≡ whole_mine old
    stays_whole old new moment result sets = ap whole_mine sets.1

    pub misses_whole : (old new : SharedState C G) → MissesShared old new → whole_mine new ≡ whole_mine old
    misses_whole old new missed = shared_misses (whole old) (whole new) (record {
      earlier = omega arith;
      sound = missed.sound;
      miss = missed.miss;
      stays = ap whole missed.stays;
    })

    pub calls_by_run : (policy : Policy) (HadGot : List ℕ → Type 0) (delivery : Delivery) (Over : Type 0)
        (from to : SharedState C G) (served : Served)
        → Ran (session_rules (shared_rules waits policy) delivery HadGot) Over from served to
        → MadeByRun policy Over served (λ made. made_of to.pass ≡ made_of from.pass ++ made)
    calls_by_run policy HadGot delivery Over from to served ran =
        let desk = shared_rules waits policy in
        let run = ends_of (session_rules desk delivery HadGot) Over from to served served.ended ran in
        (made_by_ends desk whole_mine makes_whole refuses_whole stays_whole misses_whole Over from to served run).0

-- the desk's pass was this one, and is that one now
of_pass : (from to old new : PassState) (made : List Made) → from ≡ old → to ≡ new → made_of to ≡ made_of from ++ made
    → made_of new ≡ made_of old ++ made
of_pass from to old new made begun seen grows =
    ap made_of (sym seen) ∙ grows ∙ ap (λ (pass : PassState). made_of pass ++ made) begun

module _ {I O G C : Type 0} (terms : Terms I O G C) where
  pub calls_by_visit : CallsByVisit terms
  calls_by_visit visit reader status writer old new served ran =
      let run = calls_by_run (visit_waits terms) terms.policy
      (HadGotBehind terms.contents (terms.contents visit.writer)) terms.delivery
      (IsAtEnd (terms.remaining reader.inner.now)) ran.from ran.to served ran.ran in
      (grows_so (λ made grows. of_pass ran.from.pass ran.to.pass old new made ran.begun.pass_is ran.seen grows) run).0
