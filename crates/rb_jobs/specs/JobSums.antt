-- Jobs in are jobs out: those that a run had at its beginning, and those that it began, are found at its end.
use Rattle.std.specs.Prelude.{◌≡◌, ℕ, ◌+◌, ◌≤◌, ◌==◌, if◌then◌else◌, List, [], ◌∷◌, ◌++◌, length, sum_by, Option, None, Some}
use Rattle.std.specs.Io.KnownBytes.{IsAtEnd}
use Rattle.std.specs.List.{AllZip}
use Rattle.rb_queue.specs.Counts.{removed_count, cleared_count, left_count}
use Rattle.rb_queue.specs.History.{start_of, state_of}
use Rattle.rb_queue.specs.declared.event.Event.{Event}
use Rattle.rb_queue.specs.declared.opening.Opening.{Opening}
use Rattle.rb_retry.specs.KeptSteps.{KeptState}
use Rattle.rb_retry.specs.Made.{Made, made_by}
use Rattle.rb_retry.specs.declared.policy.Policy.{Policy}
use Rattle.rb_protocol.specs.declared.line_reply.LineReply.{LineReply}
use Rattle.rb_protocol.specs.declared.line_reply.LineReply.TheVariants as lines
use Rattle.rb_jobs.specs.Events.{made_in}
use Rattle.rb_jobs.specs.JobEnds.{spent_of}
use Rattle.rb_jobs.specs.RunEvents.{MadeByRun}
use Rattle.rb_session.specs.Served.{Served}
use Rattle.rb_session.specs.Session.{Turn}
use Rattle.rb_session.specs.declared.delivery.Delivery.{Delivery}
use Rattle.rb_options.specs.declared.server_run_options.ServerRunOptions.{ServerRunOptions}
use Rattle.rb_runs.specs.Script.{RanSession, script_terms}
use Rattle.rb_jobs.specs.ServerEvents.{GrowsByVisits, IsOfSessions}
use Rattle.rb_serving.specs.Serving.{IsServersRun}
use Rattle.rb_serving.specs.Terms.{Terms}
use Rattle.rb_serving.specs.declared.serve_report.ServeReport.{ServeReport}
use Rattle.rb_jobs.specs.Places.{AreJobs}
use Rattle.rb_jobs.specs.QueueSums.{origins_sum, waiting_sum, removed_sum, cleared_sum}

-- What became of jobs in sessions: those that were begun, and those that ended as done, as dead, and as lost at a session's
-- end. Each counts with an amount of its own; with 1 for each, this is how many they are.
pub record JobSums : Type 0 where
  pub begun : ℕ
  pub done : ℕ
  pub dead : ℕ
  pub lost : ℕ

abbrev pub no_jobs : JobSums
no_jobs = record { begun = 0; done = 0; dead = 0; lost = 0 }

abbrev pub both_jobs : JobSums → JobSums → JobSums
both_jobs one other = record {
  begun = one.begun + other.begun;
  done = one.done + other.done;
  dead = one.dead + other.dead;
  lost = one.lost + other.lost;
}

-- the jobs that these replies say were accepted: each has the id of its first element
abbrev pub begun_by : List LineReply → List ℕ
begun_by [] = []
begun_by (lines.Offered id expiry ∷ replies) = id ∷ begun_by replies
begun_by (_ ∷ replies) = begun_by replies

abbrev pub begun_in : List Turn → List ℕ
begun_in [] = []
begun_in (turn ∷ turns) = begun_by turn.replies ++ begun_in turns

-- those of a session: the jobs of the elements that its replies name, and of those that it still held at its end
abbrev pub jobs_of : (ℕ → ℕ) → {policy : Policy} {Over : Type 0} {served : Served} {Grows : List Made → Type 0}
    → MadeByRun policy Over served Grows → JobSums
jobs_of amount {policy = policy} run = record {
  begun = sum_by amount (begun_in run.lines);
  done = origins_sum amount run.done;
  dead = origins_sum amount run.dead + origins_sum amount (spent_of policy run.held);
  lost = origins_sum amount run.lost;
}

-- an amount that counts one job alone
abbrev pub only : ℕ → ℕ → ℕ
only origin other = if other == origin then 1 else 0

-- Jobs in are jobs out: those that were there and those that were begun are done, dead, lost, removed, cleared, or left.
-- They are so many; and they are the same ones, each as often, since the sums agree however much each job counts. That
-- is once at most, if each job was there with one element.
pub record IsAccount (opening : Opening) (history : List Event) (jobs : (ℕ → ℕ) → JobSums) : Type 0 where
  pub numbers : length opening.elements + (jobs (λ origin. 1)).begun
      ≡ (jobs (λ origin. 1)).done + (jobs (λ origin. 1)).dead + (jobs (λ origin. 1)).lost
      + removed_count history + cleared_count opening history + left_count opening history
  pub origins : (amount : ℕ → ℕ) → origins_sum amount opening.elements + (jobs amount).begun
      ≡ (jobs amount).done + (jobs amount).dead + (jobs amount).lost
      + removed_sum amount opening history + cleared_sum amount opening history
      + waiting_sum amount (state_of opening history).queue
  pub once : AreJobs (start_of opening).queue → (origin : ℕ)
      → origins_sum (only origin) opening.elements + (jobs (only origin)).begun ≤ 1

-- the law of scripts
abbrev pub ScriptAccounts : {W : Type 0} → (W → Option (List ℕ)) → Type 0
ScriptAccounts sends =
    (got : Option (List ℕ)) (policy : Policy) (calls : ℕ) (delivery : Delivery) (rest : Option (List ℕ))
    (opening : Opening) (served : Served) (to : KeptState)
    → RanSession (script_terms sends got policy calls delivery opening) (IsAtEnd rest) served to
    → (run : MadeByRun policy (IsAtEnd rest) served (λ made. made_in to.log ≡ made))
    × IsAccount opening to.log.history (λ amount. jobs_of amount run)

-- those of a worker's visits, by which its calls grew from these to those
abbrev pub jobs_of_visits : (ℕ → ℕ) → (policy : Policy) (before : List Made) (visits : List (Option Served)) (after : List Made)
    → GrowsByVisits policy before visits after → JobSums
jobs_of_visits amount policy before [] after same = no_jobs
jobs_of_visits amount policy before (None ∷ visits) after grows = jobs_of_visits amount policy before visits after grows
jobs_of_visits amount policy before (Some served ∷ visits) after (between, (rest, run), grows) =
    both_jobs (jobs_of amount run) (jobs_of_visits amount policy between visits after grows)

-- those of all workers, whose events in the history are those of their visits
abbrev pub jobs_of_workers : (ℕ → ℕ) → (policy : Policy) (opening : Opening) (history : List Event) (names : List ℕ)
    (visits : List (List (Option Served)))
    → AllZip (λ (name : ℕ) (own : List (Option Served)). GrowsByVisits policy [] own (made_by name opening history)) names visits
    → JobSums
jobs_of_workers amount policy opening history (name ∷ names) (own ∷ visits) (grows, others) =
    both_jobs (jobs_of_visits amount policy [] own (made_by name opening history) grows)
    (jobs_of_workers amount policy opening history names visits others)
jobs_of_workers amount policy opening history _ _ all = no_jobs

module _ {I O G C : Type 0} (terms : Terms I O G C) where
  -- the law of servers, over all their sessions, of whose events the history is made
  abbrev pub ServerAccounts : Type 0 → Type 0
  ServerAccounts T =
      (opening : Opening) (options : ServerRunOptions) (report : ServeReport T)
      → (run : IsServersRun terms opening options report)
      → (sessions : IsOfSessions terms.policy opening report.kept.history run.visits)
      × IsAccount opening report.kept.history (λ amount.
      jobs_of_workers amount terms.policy opening report.kept.history sessions.names run.visits sessions.workers)
