-- Which calls a visit adds to those of the pass that serves it, and which events the history has that a server gathers:
-- just those of its sessions, worker by worker.
use Rattle.std.specs.Prelude.{◌≡◌, ℕ, List, [], ◌∷◌, ◌++◌, Contains, Option, None, Some}
use Rattle.std.specs.List.{AllZip}
use Rattle.std.specs.Io.KnownBytes.{IsAtEnd}
use Rattle.rb_protocol.specs.declared.streams.limited_reader.LimitedReader.{LimitedReader}
use Rattle.rb_protocol.specs.declared.streams.writer_status.WriterStatus.{WriterStatus}
use Rattle.rb_queue.specs.declared.event.Event.{Event}
use Rattle.rb_queue.specs.declared.opening.Opening.{Opening}
use Rattle.rb_lock.specs.Passes.{PassState}
use Rattle.rb_lock.specs.Records.{AreDifferent}
use Rattle.rb_retry.specs.Made.{Made, made_after, made_by}
use Rattle.rb_retry.specs.declared.policy.Policy.{Policy}
use Rattle.rb_jobs.specs.RunEvents.{MadeByRun}
use Rattle.rb_session.specs.Served.{Served}
use Rattle.rb_options.specs.declared.server_run_options.ServerRunOptions.{ServerRunOptions}
use Rattle.rb_serving.specs.Terms.{Terms}
use Rattle.rb_serving.specs.Serving.{IsServersRun}
use Rattle.rb_serving.specs.Visits.{RanVisit, all_visits}
use Rattle.rb_serving.specs.declared.serve_report.ServeReport.{ServeReport}
use Rattle.rb_serving.specs.declared.visit.Visit.{Visit}

-- the calls that a pass has made, each event with its reply
abbrev pub made_of : PassState → List Made
made_of pass = made_by pass.name pass.opening pass.seen

-- the session of this visit made something, of which this holds
abbrev pub MadeByVisit : Policy → Served → (List Made → Type 0) → Type 0
MadeByVisit policy served Holds =
    (rest : Option (List ℕ)) × MadeByRun policy (IsAtEnd rest) served Holds

-- the calls grew from these to those by what the first of these visits made, then by what the next made, and so on
abbrev pub GrowsByVisits : Policy → List Made → List (Option Served) → List Made → Type 0
GrowsByVisits policy before [] after = after ≡ before
GrowsByVisits policy before (None ∷ visits) after = GrowsByVisits policy before visits after
GrowsByVisits policy before (Some served ∷ visits) after =
    (between : List Made) × MadeByVisit policy served (λ made. between ≡ before ++ made)
    × GrowsByVisits policy between visits after

-- the session of one of these visits made this event, with this reply
abbrev pub IsOfOne : Policy → Made → List (Option Served) → Type 0
IsOfOne policy one visits =
    (served : Served) × Contains visits (Some served) × MadeByVisit policy served (λ made. Contains made one)

-- Each worker has a name of its own, and its events in the history, each with its reply, are those of the visits that
-- it served, one after the other. No event has another name, so each is one that a session made.
pub record IsOfSessions (policy : Policy) (begun : Opening) (history : List Event) (visits : List (List (Option Served))) : Type 0 where
  pub names : List ℕ
  pub different : AreDifferent names
  pub workers :
      AllZip (λ (name : ℕ) (own : List (Option Served)). GrowsByVisits policy [] own (made_by name begun history)) names visits
  pub no_other : (event : Event) → Contains history event → Contains names event.seat
  pub each : (made : Made) → Contains (made_after begun [] history) made → IsOfOne policy made (all_visits visits)

module _ {I O G C : Type 0} (terms : Terms I O G C) where
  -- the law of visits: the calls of the pass grow by those of the lines that were served and of the jobs that were
  -- still held, each with its reply, and by no other
  abbrev pub CallsByVisit : Type 0
  CallsByVisit =
      (visit : Visit I O G) (reader : LimitedReader I) (status : WriterStatus O) (writer : O) (old new : PassState)
      (served : Served)
      → RanVisit terms visit reader status writer old served new
      → MadeByRun terms.policy (IsAtEnd (terms.remaining reader.inner.now)) served
      (λ made. made_of new ≡ made_of old ++ made)

  -- the law of servers: the history that a server gives back is that of the sessions of its visits
  abbrev pub GathersSessions : Type 0 → Type 0
  GathersSessions T =
      (begun : Opening) (options : ServerRunOptions) (report : ServeReport T)
      → (run : IsServersRun terms begun options report) → IsOfSessions terms.policy begun report.kept.history run.visits
