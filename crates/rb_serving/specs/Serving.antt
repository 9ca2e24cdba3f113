-- What serving visits leaves of the passes, and what a server gives.
use Rattle.std.specs.Prelude.{◌≡◌, ℕ, List, [], ◌∷◌, ◌++◌, length, Option, Bool, Result, Ok, Err, IfErr, MatchBool}
use Rattle.atomic_table.specs.Seated.{TableId}
use Rattle.rb_queue.specs.Counts.{audit_of}
use Rattle.rb_queue.specs.declared.opening.Opening.{Opening}
use Rattle.rb_lock.specs.Passes.{PassState, all_records, first_pass}
use Rattle.rb_lock.specs.ClosedQueues.{HasCallsOf}
use Rattle.rb_lock.specs.declared.pass_record.PassRecord.{PassRecord}
use Rattle.rb_kept.specs.Log.{Log}
use Rattle.rb_history.specs.declared.history_fault.HistoryFault.{HistoryFault}
use Rattle.rb_history.specs.declared.history_fault.HistoryFault.TheVariants.{Write}
use Rattle.rb_options.specs.declared.server_run_options.ServerRunOptions.{ServerRunOptions}
use Rattle.rb_ending.specs.declared.broker_fault.BrokerFault.{BrokerFault}
use Rattle.rb_ending.specs.declared.broker_fault.BrokerFault.TheVariants as Broker
use Rattle.rb_ending.specs.Recording.{RecordsTo}
use Rattle.rb_session.specs.Served.{Served}
use Rattle.rb_serving.specs.DoorSteps.{DoorStep, Gathers, all_steps}
use Rattle.rb_serving.specs.ServeText.{Prints, first_fault, report_text}
use Rattle.rb_serving.specs.Terms.{Terms}
use Rattle.rb_serving.specs.VisitCounts.{counts_in}
use Rattle.rb_serving.specs.Visits.{AllServed, IsWorker, AreWorkers, counts_of, all_visits}
use Rattle.rb_serving.specs.declared.serve_report.ServeReport.{ServeReport}
use Rattle.rb_serving.specs.declared.visit_counts.VisitCounts.{VisitCounts}

-- The pass called for visitors: it is of the same queue, has the same name and parts, and nothing was folded into it.
pub record IsWorked (old new : PassState) : Type 0 where
  pub table : new.table ≡ old.table
  pub name : new.name ≡ old.name
  pub parts : new.parts ≡ old.parts
  pub folded : new.folded ≡ old.folded
  pub capacity : new.capacity ≡ old.capacity
  pub opening : new.opening ≡ old.opening

-- The sharing ended. The report has the pass's queue, with exactly the calls of the pass and of those that were
-- folded into it, the audit of its history, and the counts of the visits.
pub record IsReport {T : Type 0} (pass : PassState) (visits : VisitCounts) (report : ServeReport T) : Type 0 where
  pub opening : report.kept.opening ≡ pass.opening
  pub capacity : report.kept.capacity ≡ pass.capacity
  pub audited : report.audit ≡ audit_of report.kept.opening report.kept.history
  pub holds : HasCallsOf report.kept (all_records pass)
  pub counted : counts_in report ≡ visits

-- the pass of a queue that begins with this opening, which nobody has called, with room for as many calls as the options say
abbrev pub IsOpened : Opening → ServerRunOptions → TableId → PassState → Type 0
IsOpened begun options table pass =
    pass ≡ first_pass table (record { opening = begun; history = []; capacity = options.calls })

module _ {I O G C : Type 0} (terms : Terms I O G C) where
  -- what a worker's thread gives: a pass with nothing folded into it, and the counts of the visits that it
  -- served
  pub record IsWorkerResult (room : ℕ) (begun : Opening) (log : List (DoorStep I O G)) (pass : PassState)
      (counts : VisitCounts) : Type 0 where
    pub alone : pass.folded ≡ []
    pub visits : List (Option Served)
    pub works : IsWorker terms room begun log visits pass
    pub counted : counts ≡ counts_of visits

  -- The passes of this many workers were split off the pass and folded into it again; it made no call itself. These are
  -- the counts of all visits.
  pub record FoldsWorkers (workers : ℕ) (logs : List (List (DoorStep I O G))) (old new : PassState) (counts : VisitCounts)
      : Type 0 where
    pub records : List PassRecord
    pub many : length records ≡ workers
    pub visits : List (List (Option Served))
    pub served : AreWorkers terms old.capacity old.opening logs visits records
    pub counted : counts ≡ counts_of (all_visits visits)
    pub folded : new.folded ≡ old.folded ++ records
    pub table : new.table ≡ old.table
    pub parts : new.parts ≡ old.parts
    pub capacity : new.capacity ≡ old.capacity
    pub opening : new.opening ≡ old.opening
    pub mine : new.mine ≡ old.mine

  -- The same, and the workers' entrances, split off the door in between, are back: these are all that happened at them.
  pub record GathersWorkers {D : Type 0} (has_joined : D → ℕ → List (DoorStep I O G) → Type 0) (workers : ℕ)
      (old_door : D) (old : PassState) (new_door : D) (new : PassState) (counts : VisitCounts) : Type 0 where
    pub logs : List (List (DoorStep I O G))
    pub gathers : Gathers has_joined old_door (all_steps logs) new_door
    pub folds : FoldsWorkers workers logs old new counts

  -- The queue that a server gives back began with this opening and had room for as many calls as the options say. Its
  -- history is legal, and has the calls of as many workers and no other; the calls of each are those of the sessions
  -- that it served, one after the other, until the door had no more. The audit is that of this history, and the counts
  -- are those of all visits. `logs` are what happened at the workers' entrances.
  pub record IsServersRun {T : Type 0} (begun : Opening) (options : ServerRunOptions)
      (report : ServeReport T) : Type 0 where
    pub opening : report.kept.opening ≡ begun
    pub capacity : report.kept.capacity ≡ options.calls
    pub audited : report.audit ≡ audit_of report.kept.opening report.kept.history
    pub first : PassRecord
    pub idle : first.mine ≡ []
    pub records : List PassRecord
    pub many : length records ≡ options.workers
    pub holds : HasCallsOf report.kept (first ∷ records)
    pub visits : List (List (Option Served))
    pub logs : List (List (DoorStep I O G))
    pub served : AreWorkers terms options.calls begun logs visits records
    pub counted : counts_in report ≡ counts_of (all_visits visits)

  -- the law of visitors: each that was let in at an entrance of a server's workers was served
  abbrev pub ServesAll : Type 0 → Type 0
  ServesAll T =
      (begun : Opening) (options : ServerRunOptions) (report : ServeReport T)
      → (run : IsServersRun begun options report) → AllServed terms (all_steps run.logs)

-- what became of the recorder of a server that served nobody, for this fault: a worker is missing and it has not begun, or
-- it could not
abbrev pub EndsRecorded : {B : Type 0} → (B → B → Type 0) → B → B → BrokerFault → Type 0
EndsRecorded has_failed old new Broker.Worker = new ≡ old
EndsRecorded has_failed old new Broker.WriteHistory = has_failed old new
EndsRecorded _ _ _ _ = ⊥

-- the history was written to the recorder, if that keeps it; otherwise nothing was to be done
abbrev pub RecordsIn : {B : Type 0} → (B → Bool) → (B → Option (List ℕ)) → Log → Result (Unit {0}) HistoryFault → B → B
    → Type 0
RecordsIn keeps contents log wrote old new =
    MatchBool (keeps old) (RecordsTo contents log wrote old new) ((wrote ≡ Ok tt) × (new ≡ old))

module _ {I O G C : Type 0} (terms : Terms I O G C) where
  -- A whole run: the server's report, of a run that begins with this opening, is what was recorded and printed. The recorder
  -- had begun before. `ended` is the fault of recording, if there is one, and otherwise that of printing. The history is
  -- written in memory that was taken before, so recording never lacks any.
  pub record EndsRun (T : Type 0) {D B W : Type 0} (has_joined : D → ℕ → List (DoorStep I O G) → Type 0)
      (has_begun : B → B → Type 0) (keeps : B → Bool) (contents : B → Option (List ℕ)) (begun : Opening)
      (options : ServerRunOptions) (old_door new_door : D) (old new : B) (sends : W → Option (List ℕ)) (output output' : W)
      (ended : Result (Unit {0}) BrokerFault) : Type 0 where
    pub report : ServeReport T
    pub run : IsServersRun terms begun options report
    pub gathers : Gathers has_joined old_door (all_steps run.logs) new_door
    pub between : B
    pub began : has_begun old between
    pub recorded : Result (Unit {0}) HistoryFault
    pub records : RecordsIn keeps contents report.kept recorded between new
    pub fault : IfErr recorded (λ fault. fault ≡ Write)
    pub printed : Result (Unit {0}) BrokerFault
    pub prints : Prints sends printed output (report_text report) output'
    pub outcome : ended ≡ first_fault recorded printed

-- no run was served, for this reason: nothing happened at any entrance, and nothing was printed
pub record FailsRun {D I O G B W : Type 0} (has_joined : D → ℕ → List (DoorStep I O G) → Type 0) (has_failed : B → B → Type 0)
    (old_door new_door : D) (old new : B) (output output' : W) (ended : Result (Unit {0}) BrokerFault) : Type 0 where
  pub fault : BrokerFault
  pub unused : Gathers has_joined old_door [] new_door
  pub reason : EndsRecorded has_failed old new fault
  pub silent : output' ≡ output
  pub outcome : ended ≡ Err fault

-- there was no memory for a run, and nothing happened
pub record LacksMemory {D B W : Type 0} (old_door new_door : D) (old new : B) (output output' : W)
    (ended : Result (Unit {0}) BrokerFault) : Type 0 where
  pub door : new_door ≡ old_door
  pub recorder : new ≡ old
  pub silent : output' ≡ output
  pub outcome : ended ≡ Err Broker.Memory
