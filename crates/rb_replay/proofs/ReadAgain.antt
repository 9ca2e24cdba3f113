-- What is written of a run is read again.
use Rattle.std.proofs.Common.{◌≤◌, List, [], ◌∷◌, ◌++◌, length, subst, refl, Result, Ok, Err, arith}
use Rattle.rb_queue.specs.History.{State, start_of, state_after, state_from, Allows, AllowsAll, IsLegal}
use Rattle.rb_queue.specs.declared.audit.Audit.{Audit}
use Rattle.rb_queue.specs.declared.event.Event.{Event}
use Rattle.rb_queue.specs.declared.opening.Opening.{Opening}
use Rattle.rb_kept.specs.declared.kept.TheConstants.{MOST_CALLS}
use Rattle.rb_replay.specs.Checking.{Checks}
use Rattle.rb_history.specs.HistoryText.{history_text}
use Rattle.rb_history.specs.Ranges.{IsRightOpening, AreRightEvents}
use Rattle.rb_history.specs.Readings.{IsTextIn}
use Rattle.rb_replay.specs.WrittenHistories.{IsAudited, IsReadAgain}
use Rattle.rb_replay.specs.declared.replay_fault.ReplayFault.{ReplayFault}
use Rattle.rb_replay.specs.declared.replay_fault.ReplayFault.TheVariants.{At, Memory}
use Rattle.rb_history.specs.declared.version.Version.TheVariants.{Three}
use Rattle.rb_history.proofs.EachReadings.{reads_each}

-- an event in a legal list is allowed behind those before it
allowed_behind : (from : State) (front behind : List Event) (event : Event) → AllowsAll from (front ++ event ∷ behind) → Allows (state_from from front) event
allowed_behind from [] behind event legal = legal.0
allowed_behind from (first ∷ front) behind event legal = allowed_behind (state_after from first) front behind event legal.1

-- a legal history has its audit, and no first event that is not allowed
is_audited : (opening : Opening) (events : List Event) (answer : Result Audit ReplayFault) → IsLegal opening events → Checks opening events answer
    → IsAudited opening events answer
is_audited opening events (Ok audit) legal checks = checks.1
is_audited opening events (Err (At index reason)) legal refuses =
    refuses.refused (allowed_behind (start_of opening) refuses.front refuses.behind refuses.event (subst (AllowsAll (start_of opening)) refuses.split legal))
is_audited opening events (Err Memory) legal checks = tt

-- the text that is written is a text of the run, in the third version
is_written : (opening : Opening) (events : List Event) → length events ≤ MOST_CALLS → IsTextIn Three opening events (history_text opening events)
is_written opening events few = record { text_is = refl; begins = tt; few = omega (arith, few); firsts = tt }

pub written_is_read : (opening : Opening) (events : List Event) → IsRightOpening opening → AreRightEvents events → IsLegal opening events
    → length events ≤ MOST_CALLS → IsReadAgain opening events
written_is_read opening events fits suits legal few = record {
  read = λ answer right reads. reads_each (history_text opening events) answer right reads opening events fits suits (Three, is_written opening events few);
  checked = λ answer checks. is_audited opening events answer legal checks;
}
