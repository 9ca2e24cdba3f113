-- That scripts and servers keep jobs, over whole runs.
use Rattle.std.specs.Prelude.{ℕ, List, [], Option, ◌==◌, if◌then◌else◌}
use Rattle.std.specs.Io.KnownBytes.{IsAtEnd}
use Rattle.rb_delayed.specs.declared.element.Element.{Element}
use Rattle.rb_queue.specs.History.{start_of}
use Rattle.rb_queue.specs.declared.event.Event.{Event}
use Rattle.rb_queue.specs.declared.opening.Opening.{Opening}
use Rattle.rb_retry.specs.DeskRules.{kept_rules}
use Rattle.rb_retry.specs.KeptSteps.{KeptState}
use Rattle.rb_retry.specs.declared.policy.Policy.{Policy}
use Rattle.rb_session.specs.Served.{Served}
use Rattle.rb_session.specs.Session.{Turn, Serves}
use Rattle.rb_session.specs.Turn.{Point, point}
use Rattle.rb_session.specs.declared.delivery.Delivery.{Delivery}
use Rattle.rb_options.specs.declared.server_run_options.ServerRunOptions.{ServerRunOptions}
use Rattle.rb_runs.specs.Script.{IsNew, RanSession, script_terms}
use Rattle.rb_lock.specs.Passes.{PassState}
use Rattle.rb_shared_desk.specs.SharedSteps.{SharedState}
use Rattle.rb_serving.specs.DoorSteps.{DoorStep}
use Rattle.rb_serving.specs.Serving.{IsServersRun}
use Rattle.rb_serving.specs.Terms.{Terms}
use Rattle.rb_serving.specs.Visits.{AreVisits, IsDeskOf, IsUnused, shared_rules, visit_waits}
use Rattle.rb_serving.specs.declared.serve_report.ServeReport.{ServeReport}
use Rattle.rb_jobs.specs.Hands.{AreHands, HandlesAll}
use Rattle.rb_jobs.specs.Places.{AreJobs, KeepsJobs}
use Rattle.rb_jobs.specs.ServerEvents.{made_of}

-- nobody holds anything
abbrev pub empty_hands : ℕ → List Element
empty_hands seat = []

-- the only seat of a queue that is not shared holds these
abbrev pub only_hands : List Element → ℕ → List Element
only_hands held seat = if seat == 0 then held else []

-- A run kept jobs from this opening on, and its seats have hands. That these are empty at the end says no more: what is
-- held may be let go.
pub record RunKeepsJobs (policy : Policy) (opening : Opening) (history : List Event) : Type 0 where
  pub keeps : KeepsJobs policy opening history
  pub hands : AreHands policy opening history empty_hands

-- The law of each moment of a script: behind each line that is served, what the session holds is what its seat may hold,
-- and jobs are kept.
abbrev pub LinesKeepJobs : Type 0
LinesKeepJobs =
    (policy : Policy) (calls : ℕ) (opening : Opening) (from : KeptState) (to : Point KeptState) (turns : List Turn)
    → AreJobs (start_of opening).queue → IsNew from opening calls → Serves (kept_rules policy) (point from []) turns to
    → KeepsJobs policy opening to.desk.log.history × AreHands policy opening to.desk.log.history (only_hands to.held)

-- the law of scripts
abbrev pub ScriptKeepsJobs : {W : Type 0} → (W → Option (List ℕ)) → Type 0
ScriptKeepsJobs sends =
    (got : Option (List ℕ)) (policy : Policy) (calls : ℕ) (delivery : Delivery) (rest : Option (List ℕ))
    (opening : Opening) (served : Served) (to : KeptState)
    → AreJobs (start_of opening).queue
    → RanSession (script_terms sends got policy calls delivery opening) (IsAtEnd rest) served to
    → RunKeepsJobs policy opening to.log.history

module _ {I O G C : Type 0} (terms : Terms I O G C) where
  -- The law of each moment of a server: a worker's pass made no call, then served these visits, and then these lines of one
  -- more at a new desk. What that session holds behind them is what the pass's calls allow its seat to hold.
  abbrev pub VisitsKeepJobs : Type 0
  VisitsKeepJobs =
      (first between : PassState) (log : List (DoorStep I O G)) (visits : List (Option Served)) (gate : G)
      (from : SharedState C G) (to : Point (SharedState C G)) (turns : List Turn)
      → IsUnused first → AreVisits terms first log visits between → IsDeskOf terms.clock gate between from
      → Serves (shared_rules (visit_waits terms) terms.policy) (point from []) turns to
      → HandlesAll terms.policy [] (made_of to.desk.pass) to.held

  -- the law of servers
  abbrev pub ServerKeepsJobs : Type 0 → Type 0
  ServerKeepsJobs T =
      (opening : Opening) (options : ServerRunOptions) (report : ServeReport T) → AreJobs (start_of opening).queue
      → IsServersRun terms opening options report → RunKeepsJobs terms.policy opening report.kept.history
