-- An answered try of a kept queue is one more event with its reply, and a refused one is none. No
-- public clause cites this module.
use Rattle.std.proofs.Common.{◌≡◌, ℕ, ◌≤◌, List, [], ◌∷◌, ◌++◌, ap, subst}
use Rattle.std.proofs.Common.{◌∙◌, refl, Option, Result, Ok, Err, length, take, drop}
use Rattle.std.proofs.lemmas.List.{take-append-drop, take-append-le, drop-append-le}
use Rattle.rb_queue.specs.History.{IsLegal}
use Rattle.rb_queue.specs.Replies.{reply_of}
use Rattle.rb_queue.specs.declared.ask.Ask.{Ask}
use Rattle.rb_queue.specs.declared.ask.Ask.TheVariants.{Take, PollFor}
use Rattle.rb_queue.specs.declared.event.Event.{Event}
use Rattle.rb_queue.specs.declared.opening.Opening.{Opening}
use Rattle.rb_queue.specs.declared.reply.Reply.{Reply}
use Rattle.rb_kept.specs.Log.{Log, with_event}
use Rattle.rb_kept.specs.Tries.{StepsTo}
use Rattle.rb_kept.specs.declared.tries.Try.{Try}
use Rattle.rb_kept.specs.declared.outcome.Outcome.{Outcome}
use Rattle.rb_kept.specs.declared.outcome.Outcome.TheVariants.{Done, Later}
use Rattle.rb_kept.specs.declared.fault.CallFault.{CallFault}
use Rattle.rb_kept.specs.declared.fault.CallFault.TheVariants as refusals
use Rattle.rb_retry.specs.Made.{made_after, GivesOnce}
use Rattle.rb_retry.specs.Asked.{MayGet, MayWait, IsMomentOf, Makes}
use Rattle.rb_retry.specs.RecordLaws.{recorded_reply, may_wait, made_after-more}
use Rattle.rb_retry.specs.GivenLaws.{later_gives_once}
use Rattle.rb_retry.specs.KeptSteps.{KeptState, KeptSteps, SetsKept, made_at, asked_at, answer_of}
use Rattle.rb_retry.specs.declared.desk_fault.DeskFault.{DeskFault}
use Rattle.rb_retry.specs.declared.desk_fault.DeskFault.TheVariants.{Full, Memory, Stopped}

-- the moment that is recorded is the one at which the ask is made
is_moment : (ask : Ask) (moment handed asked : ℕ) → asked ≡ asked_at moment ask handed
    → IsMomentOf (λ reading. reading ≡ moment) ask handed asked
is_moment Take moment handed asked same = same
is_moment (PollFor start timeout) moment handed asked same = same
is_moment _ moment handed asked same = same

made_more : (opening : Opening) (count : ℕ) (history : List Event) (event : Event) → count ≤ length history
    → made_after opening (take count (history ++ event ∷ [])) (drop count (history ++ event ∷ []))
    ≡ made_after opening (take count history) (drop count history)
    ++ record { event = event; reply = reply_of opening (history ++ event ∷ []) } ∷ []
made_more opening count history event within =
    rw (
      take-append-le count history (event ∷ []) within,
      drop-append-le count history (event ∷ []) within,
      made_after-more opening (take count history) (drop count history) (event ∷ []),
      take-append-drop count history,
    ) refl

-- a reply is that of a call that was made
is_done : (answer : Reply) (outcome : Result Outcome CallFault) → Ok answer ≡ answer_of outcome → outcome ≡ Ok (Done answer)
is_done answer (Ok (Done reply)) same = cc
is_done answer (Ok (Later next)) same = absurd (cc)
is_done answer (Err refusals.Full) same = absurd (cc)
is_done answer (Err refusals.Memory) same = absurd (cc)

module _ (old new : KeptState) (handed : ℕ) (ask : Ask) where
  -- the try that a call makes
  abbrev try_at : Try
  try_at = record { seat = 0; asked = asked_at old.moment ask handed; ask = ask }

  -- the log says what was made
  made_of_log : (result : Result Reply DeskFault) → KeptSteps old handed ask result new → (log : Log) → new.log ≡ log
      → made_at new ≡ made_after log.opening (take old.before log.history) (drop old.before log.history)
  made_of_log result steps log same =
      ap made_at steps.stays
      ∙ ap (λ (l : Log). made_after l.opening (take old.before l.history) (drop old.before l.history)) same

  -- an answered call is a try that was done
  steps_done : (answer : Reply) → KeptSteps old handed ask (Ok answer) new → StepsTo old.log try_at (Ok (Done answer)) new.log
  steps_done answer steps =
      subst (λ outcome. StepsTo old.log try_at outcome new.log) (is_done answer steps.outcome steps.answers) steps.steps

  pub kept_makes : (answer : Reply) → KeptSteps old handed ask (Ok answer) new
      → Makes (λ moment. moment ≡ old.moment) handed ask answer (made_at old) (made_at new)
  kept_makes answer steps =
      let (room, (event, is, records)) = steps_done answer steps in record {
        event = event;
        grows =
            made_of_log (Ok answer) steps (with_event old.log event) is
            ∙ made_more old.log.opening old.before old.log.history event steps.earlier
            ∙ ap (λ (r : Option Reply). made_at old ++ (record { event = event; reply = r }) ∷ []) records.reply;
        of_ask = records.act;
        asked = is_moment ask old.moment handed event.asked records.asked;
        answered = recorded_reply old.log try_at answer event records;
      }

  pub kept_gives_once : (answer : Reply) → KeptSteps old handed ask (Ok answer) new → GivesOnce (made_at new)
  kept_gives_once answer steps =
      let (room, (event, is, records)) = steps_done answer steps in
      let history : List Event = old.log.history ++ event ∷ [] in
      let legal : IsLegal old.log.opening (take old.before history ++ drop old.before history) =
      rw (take-append-drop old.before history) records.legal in
      rw (made_of_log (Ok answer) steps (with_event old.log event) is)
      (later_gives_once old.log.opening (take old.before history) (drop old.before history) legal)

  pub kept_refuses : (fault : DeskFault) → KeptSteps old handed ask (Err fault) new
      → MayGet ask fault × (made_at new ≡ made_at old)
  kept_refuses fault steps = of_outcome steps.outcome steps.answers steps.steps
    where
      of_outcome : (outcome : Result Outcome CallFault) → Err fault ≡ answer_of outcome
          → StepsTo old.log try_at outcome new.log → MayGet ask fault × (made_at new ≡ made_at old)
      of_outcome (Ok (Done reply)) same step = absurd (cc)
      of_outcome (Ok (Later next)) same (room, (waits, is)) =
          let stopped : Stopped ≡ fault = cc in
          (subst (MayGet ask) stopped (may_wait ask _ waits.waits), made_of_log (Err fault) steps old.log is)
      of_outcome (Err refusals.Full) same (full, is) =
          let is_full : Full ≡ fault = cc in
          (subst (MayGet ask) is_full tt, made_of_log (Err fault) steps old.log is)
      of_outcome (Err refusals.Memory) same (room, takes, is) =
          let is_memory : Memory ≡ fault = cc in
          (subst (MayGet ask) is_memory takes, made_of_log (Err fault) steps old.log is)

pub kept_stays : (old new : KeptState) (moment : ℕ) (result : Option ℕ) → SetsKept old moment result new
    → made_at new ≡ made_at old
kept_stays old new moment result sets = ap made_at sets.1

-- a call that may wait is made at the desk's moment, whatever is handed in
pub kept_tries_once : (old new : KeptState) (asked handed : ℕ) (ask : Ask) (answer : Result Reply DeskFault) → MayWait ask
    → asked ≡ old.moment → KeptSteps old asked ask answer new → KeptSteps old handed ask answer new
kept_tries_once old new asked handed Take answer waits is steps = record {
  earlier = steps.earlier;
  outcome = steps.outcome;
  answers = steps.answers;
  steps = steps.steps;
  counts = steps.counts;
  stays = steps.stays;
}
kept_tries_once old new asked handed (PollFor start timeout) answer waits is steps = record {
  earlier = steps.earlier;
  outcome = steps.outcome;
  answers = steps.answers;
  steps = steps.steps;
  counts = steps.counts;
  stays = steps.stays;
}
kept_tries_once old new asked handed _ answer waits is steps = absurd waits

pub kept_keeps_name : (old new : KeptState) (asked : ℕ) (ask : Ask) (answer : Result Reply DeskFault)
    → KeptSteps old asked ask answer new → new.name ≡ old.name
kept_keeps_name old new asked ask answer steps = ap (λ (state : KeptState). state.name) steps.stays

pub kept_sets_no_name : (old new : KeptState) (moment : ℕ) (result : Option ℕ) → SetsKept old moment result new
    → new.name ≡ old.name
kept_sets_no_name old new moment result sets = ap (λ (state : KeptState). state.name) sets.1
