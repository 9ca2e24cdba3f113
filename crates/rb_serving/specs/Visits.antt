-- What became of those who came to a door, and of the pass of the worker that served them.
use Rattle.std.specs.Prelude.{◌≡◌, ◌≢◌, ℕ, min, List, [], ◌∷◌, ◌++◌, length, sum_by, Option, None, Some, Err}
use Rattle.std.specs.List.{flat_map}
use Rattle.std.specs.Io.KnownBytes.{Appends, Consumes, IsAtEnd}
use Rattle.rb_protocol.specs.declared.streams.limited_reader.LimitedReader.{LimitedReader}
use Rattle.rb_protocol.specs.declared.streams.writer_status.WriterStatus.{WriterStatus}
use Rattle.rb_protocol.specs.declared.streams.reader_state.ReaderState.TheVariants.{Open}
use Rattle.rb_protocol.specs.declared.streams.writer_state.WriterState.TheVariants.{Open as WriterOpen}
use Rattle.rb_ledger.specs.declared.totals.TheConstants.{GREATEST_COUNT}
use Rattle.rb_queue.specs.Counts.{events_of}
use Rattle.rb_queue.specs.declared.opening.Opening.{Opening}
use Rattle.rb_lock.specs.Passes.{PassState, record_of}
use Rattle.rb_lock.specs.declared.pass_record.PassRecord.{PassRecord}
use Rattle.rb_shared_desk.specs.WaitRules.{WaitRules}
use Rattle.rb_shared_desk.specs.SharedSteps.{SharedState, SharedSteps, TriesShared, MissesShared, SetsShared}
use Rattle.rb_retry.specs.DeskRules.{DeskRules}
use Rattle.rb_retry.specs.declared.policy.Policy.{Policy}
use Rattle.rb_session.specs.Rules.{SessionRules, session_rules, HadGotBehind}
use Rattle.rb_session.specs.Served.{Served}
use Rattle.rb_session.specs.Ran.{Ran, DemandsOnlyAnswers}
use Rattle.rb_session.specs.Turn.{point}
use Rattle.rb_session.specs.Reasons.{IsReason, IsWriteReason}
use Rattle.rb_session.specs.declared.session_fault.SessionFault.TheVariants.{Memory}
use Rattle.rb_serving.specs.DoorSteps.{DoorStep, Sees, LetIn, TurnedAway, NoMore, Left}
use Rattle.rb_serving.specs.Terms.{Terms}
use Rattle.rb_serving.specs.VisitCounts.{ended_visit, refused_visit}
use Rattle.rb_serving.specs.declared.visit.Visit.{Visit}
use Rattle.rb_serving.specs.declared.visit_counts.VisitCounts.{VisitCounts}

-- what one visit counts for: one that was refused at the door, or one whose session ended so
abbrev pub counts_at : Option Served → VisitCounts
counts_at None = refused_visit
counts_at (Some visit) = ended_visit visit.ended

-- the counts of all of them, each at most the greatest
abbrev pub counts_of : List (Option Served) → VisitCounts
counts_of visits = record {
  sessions = min (length visits) GREATEST_COUNT;
  faults = min (sum_by (λ visit. (counts_at visit).faults) visits) GREATEST_COUNT;
  lost = min (sum_by (λ visit. (counts_at visit).lost) visits) GREATEST_COUNT;
}

-- the visits of all workers, one worker's behind the other's
abbrev pub all_visits : List (List (Option Served)) → List (Option Served)
all_visits visits = flat_map (λ own. own) visits

-- A pass that made no call, has seen none under its name, and has nothing folded into it.
pub record IsUnused (pass : PassState) : Type 0 where
  pub idle : pass.mine ≡ []
  pub unheard : events_of pass.seen pass.name ≡ []
  pub alone : pass.folded ≡ []

-- a desk of the pass, with this clock and gate, through which nothing was made yet
pub record IsDeskOf {C G : Type 0} (clock : C) (gate : G) (pass : PassState) (desk : SharedState C G) : Type 0 where
  pub pass_is : desk.pass ≡ pass
  pub clock_is : desk.clock ≡ clock
  pub gate_is : desk.gate ≡ gate
  pub before : desk.before ≡ length pass.mine

-- the rules of a desk over a shared queue, by those of its waits
abbrev pub shared_rules : {C G : Type 0} → WaitRules C G → Policy → DeskRules (SharedState C G)
shared_rules waits policy = record {
  gives = λ desk moment. waits.gives desk.clock moment;
  Sets = SetsShared;
  Steps = SharedSteps waits;
  Tries = TriesShared waits;
  Misses = MissesShared;
  policy = policy;
}

module _ {I O G C : Type 0} (terms : Terms I O G C) where
  -- what the clock of all visits may give, and what their gates may answer
  abbrev pub visit_waits : WaitRules C G
  visit_waits = record { gives = terms.gives; reads = terms.reads; answers = terms.answers; has_seen = terms.has_seen }

  -- the rules of the session of a visit with this writer
  abbrev pub visit_rules : O → SessionRules (SharedState C G)
  visit_rules writer =
      session_rules (shared_rules visit_waits terms.policy) terms.delivery
      (HadGotBehind terms.contents (terms.contents writer))

  -- The session of this visit was run at a new desk of the pass, which is one of the server's queue. What came was read from the visit's reader, what
  -- was sent went to its writer, and its gate could end the waits. `reader` and `writer` are what is left of the two,
  -- and `status` is of all that was written to the writer in between.
  -- The input ended only if the last read met its end, a read failed exactly if the session says so, and it gave
  -- reading up only when all reads had been made. It could not write exactly if it says so. Want of memory did not end it.
  pub record RanVisit (visit : Visit I O G) (reader : LimitedReader I) (status : WriterStatus O) (writer : O)
      (old : PassState) (served : Served) (new : PassState) : Type 0 where
    pub table : old.table ≡ terms.table
    pub consumed : Consumes (terms.remaining visit.reader) (terms.remaining reader.inner.now) served.came
    pub appended : Appends (terms.contents visit.writer) (terms.contents writer) served.sent
    pub from : SharedState C G
    pub begun : IsDeskOf terms.clock visit.gate old from
    pub to : SharedState C G
    pub ran : Ran (visit_rules visit.writer) (IsAtEnd (terms.remaining reader.inner.now)) from served to
    pub seen : to.pass ≡ new
    pub had_memory : served.ended ≢ Err Memory
    pub reason : IsReason Open reader served.ended
    pub written_first : status.first.value ≡ visit.writer
    pub written_last : status.last.value ≡ writer
    pub write_reason : IsWriteReason WriterOpen status served.ended

  -- The session of this visit was run, and one thing more happened at the entrance: it got back what is left of the visit.
  pub record LeftVisit {D : Type 0} (has_seen : D → List (DoorStep I O G) → Type 0) (old_door : D) (visit : Visit I O G)
      (old : PassState) (served : Served) (new : PassState) (new_door : D) : Type 0 where
    pub reader : LimitedReader I
    pub status : WriterStatus O
    pub writer : O
    pub left : Sees has_seen old_door (Left reader status writer) new_door
    pub ran : RanVisit visit reader status writer old served new

  -- What is demanded of a session, of a visit that an entrance awaits, holds: what the visit's writer demands of each piece
  -- and of the pass, while the session runs; and what the door demands of what is left of the visit, and of the pass.
  pub record Satisfies {D : Type 0} (awaits : D → Visit I O G → PassState → Type 0)
      (demands : Visit I O G → LimitedReader I → WriterStatus O → O → PassState → PassState → Type 0) : Type 0 where
    pub meanwhile : (door : D) (visit : Visit I O G) (old : PassState) (from : SharedState C G) → awaits door visit old
        → old.table ≡ terms.table → IsDeskOf terms.clock visit.gate old from
        → DemandsOnlyAnswers (visit_rules visit.writer) (point from []) (λ desk pass. pass ≡ desk.pass)
        terms.remaining visit.reader terms.contents terms.demands visit.writer
    pub afterwards : (visit : Visit I O G) (reader : LimitedReader I) (status : WriterStatus O) (writer : O) (old : PassState)
        (served : Served) (new : PassState)
        → RanVisit visit reader status writer old served new → demands visit reader status writer old new

  -- All that happened at an entrance, up to its end, and what became of its visitors. One was turned away, and the
  -- pass did nothing; or one was let in, the session of this visit was run by the pass, and the next that happened was
  -- that the entrance got back what is left of it. Nothing else happened there, and the pass did nothing else.
  abbrev pub AreVisits : PassState → List (DoorStep I O G) → List (Option Served) → PassState → Type 0
  AreVisits old [] [] new = new ≡ old
  AreVisits old (TurnedAway ∷ log) (None ∷ visits) new = AreVisits old log visits new
  AreVisits old (LetIn visit ∷ Left reader status writer ∷ log) (Some served ∷ visits) new =
      (between : PassState) × RanVisit visit reader status writer old served between × AreVisits between log visits new
  AreVisits _ _ _ _ = ⊥

  -- A worker's pass, of the run that begins with this opening and has room for so many calls: it had made no call, had
  -- seen none under its name, and served these visits, which are all that happened at the worker's entrance before it
  -- had no more.
  pub record IsWorker (room : ℕ) (begun : Opening) (log : List (DoorStep I O G)) (visits : List (Option Served))
      (pass : PassState) : Type 0 where
    pub capacity : pass.capacity ≡ room
    pub opening : pass.opening ≡ begun
    pub first : PassState
    pub unused : IsUnused first
    pub came : List (DoorStep I O G)
    pub served : AreVisits first came visits pass
    pub no_more : log ≡ came ++ NoMore ∷ []

  -- The session of this visit was run, and the next that happened at the entrance was that it got back what is left of it.
  abbrev pub IsServed : Visit I O G → List (DoorStep I O G) → Type 0
  IsServed visit (Left reader status writer ∷ later) =
      (old : PassState) × (new : PassState) × (served : Served) × RanVisit visit reader status writer old served new
  IsServed visit _ = ⊥

  -- each visitor that was let in was served
  abbrev pub AllServed : List (DoorStep I O G) → Type 0
  AllServed [] = Unit {0}
  AllServed (LetIn visit ∷ later) = IsServed visit later × AllServed later
  AllServed (_ ∷ later) = AllServed later

  -- each record is that of a worker of this run that served these visits, at an entrance where this happened
  abbrev pub AreWorkers : ℕ → Opening → List (List (DoorStep I O G)) → List (List (Option Served)) → List PassRecord → Type 0
  AreWorkers room begun [] [] [] = Unit {0}
  AreWorkers room begun (log ∷ logs) (visits ∷ others) (one ∷ records) =
      ((pass : PassState) × IsWorker room begun log visits pass × (one ≡ record_of pass))
      × AreWorkers room begun logs others records
  AreWorkers _ _ _ _ _ = ⊥
