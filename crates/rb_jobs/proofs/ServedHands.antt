-- Each worker's pass holds what its sessions were given until that ends, and the history that is gathered has no other
-- events.
use Rattle.std.proofs.Common.{◌≡◌, ◌≢◌, ℕ, ◌<◌, ◌⊎◌, inl, inr, List, [], ◌∷◌, ◌++◌, Contains, Bool, cond, Option, None, Some, refl, sym, ap, subst, ◌∙◌, arith, append-nil, append_assoc, ◌≤◌, ne_eqb}
use Rattle.std.proofs.lemmas.Bool.{cases_lt}
use Rattle.std.proofs.lemmas.List.Elements.{Contains-append_right}
use Rattle.std.specs.Prelude.{filter, ◌==◌}
use Rattle.std.specs.Io.KnownBytes.{IsAtEnd}
use Rattle.rb_queue.specs.History.{IsLegal}
use Rattle.rb_queue.specs.Replies.{reply_of}
use Rattle.rb_queue.specs.declared.event.Event.{Event}
use Rattle.rb_queue.specs.declared.opening.Opening.{Opening}
use Rattle.rb_queue.proofs.Options.{same_or_not}
use Rattle.rb_lock.specs.Passes.{PassState, record_of}
use Rattle.rb_lock.specs.Records.{AreRecords, IsRecord, names_of, times_in}
use Rattle.rb_lock.specs.declared.pass_record.PassRecord.{PassRecord}
use Rattle.rb_lock.proofs.Sums.{bit_apart}
use Rattle.rb_retry.specs.Made.{Made, made_after, made_by}
use Rattle.rb_retry.specs.declared.policy.Policy.{Policy}
use Rattle.rb_shared_desk.specs.SharedSteps.{SharedState}
use Rattle.rb_shared_desk.specs.WaitRules.{WaitRules}
use Rattle.rb_session.specs.Ran.{Ran}
use Rattle.rb_session.specs.Rules.{session_rules, HadGotBehind}
use Rattle.rb_session.specs.Served.{Served}
use Rattle.rb_session.specs.Session.{Turn, Serves}
use Rattle.rb_session.specs.Turn.{Point, point}
use Rattle.rb_session.specs.declared.delivery.Delivery.{Delivery}
use Rattle.rb_session.specs.declared.delivery.Delivery.TheVariants.{AtOnce}
use Rattle.rb_serving.specs.Terms.{Terms}
use Rattle.rb_jobs.specs.ServerEvents.{made_of}
use Rattle.rb_serving.specs.DoorSteps.{DoorStep, LetIn, TurnedAway, Left}
use Rattle.rb_serving.specs.Visits.{AreVisits, AreWorkers, IsWorker, RanVisit, shared_rules, visit_waits}
use Rattle.rb_jobs.proofs.GatheredNames.{named_behind}
use Rattle.rb_jobs.proofs.ServerEvents.{made_none, seen_all}
use Rattle.rb_jobs.proofs.SharedRuns.{whole_mine, makes_whole, refuses_whole, stays_whole, misses_whole}
use Rattle.rb_jobs.specs.Hands.{HandlesAll, AreHands}
use Rattle.rb_jobs.specs.RunJobs.{ServerKeepsJobs, VisitsKeepJobs, empty_hands}
use Rattle.rb_jobs.specs.SessionHands.{LeadsOn}
use Rattle.rb_jobs.proofs.Histories.{jobs_are_kept}
use Rattle.rb_jobs.proofs.SessionHands.{goes_miss, goes_same, goes_then, goes_way, goes_ends, handles_then}
use Rattle.rb_jobs.proofs.Sessions.{along_lines, along_run}

module _ {C G : Type 0} where
  module _ (waits : WaitRules C G) where
    -- the lines of a session, which begins with nothing held
    lines_handle : (policy : Policy) (from : SharedState C G) (to : Point (SharedState C G)) (turns : List Turn)
        → Serves (shared_rules waits policy) (point from []) turns to → LeadsOn policy whole_mine (point from []) to
    lines_handle policy from to turns serves =
        along_lines (session_rules (shared_rules waits policy) AtOnce (λ earlier. Unit {0}))
        (LeadsOn policy whole_mine)
        (goes_same (shared_rules waits policy) whole_mine (makes_whole waits) (refuses_whole waits) (stays_whole waits))
        (goes_then (shared_rules waits policy) whole_mine (makes_whole waits) (refuses_whole waits) (stays_whole waits))
        (goes_way (shared_rules waits policy) whole_mine (makes_whole waits) (refuses_whole waits) (stays_whole waits))
        (goes_ends (shared_rules waits policy) whole_mine (makes_whole waits) (refuses_whole waits) (stays_whole waits))
        (point from []) to turns serves

    -- a session begins and ends with nothing held, whatever its pass had made before
    run_handles : (policy : Policy) (HadGot : List ℕ → Type 0) (delivery : Delivery) (Over : Type 0)
        (from to : SharedState C G) (served : Served)
        → Ran (session_rules (shared_rules waits policy) delivery HadGot) Over from served to
        → LeadsOn policy whole_mine (point from []) (point to [])
    run_handles policy HadGot delivery Over from to served ran =
        along_run (session_rules (shared_rules waits policy) delivery HadGot) (LeadsOn policy whole_mine)
        (goes_same (shared_rules waits policy) whole_mine (makes_whole waits) (refuses_whole waits) (stays_whole waits))
        (goes_then (shared_rules waits policy) whole_mine (makes_whole waits) (refuses_whole waits) (stays_whole waits))
        (goes_way (shared_rules waits policy) whole_mine (makes_whole waits) (refuses_whole waits) (stays_whole waits))
        (goes_ends (shared_rules waits policy) whole_mine (makes_whole waits) (refuses_whole waits) (stays_whole waits))
        (goes_miss (shared_rules waits policy) whole_mine (makes_whole waits) (refuses_whole waits) (stays_whole waits)
        (misses_whole waits))
        Over from to served ran

-- From one pass to another these calls were made, and nothing was held before them or behind.
abbrev PassHandles : Policy → PassState → PassState → Type 0
PassHandles policy old new =
    (made : List Made) × (made_of new ≡ made_of old ++ made) × HandlesAll policy [] made []

pass_then : (policy : Policy) (one two three : PassState) → PassHandles policy one two → PassHandles policy two three
    → PassHandles policy one three
pass_then policy one two three (made, grows, handles) (more, grows_more, handles_more) = (
  made ++ more,
  grows_more ∙ ap (λ (mades : List Made). mades ++ more) grows ∙ append_assoc (made_of one) made more,
  handles_then policy [] [] [] made more handles handles_more,
)

-- what no event of the history is of, nobody made
nobody_made : (seat : ℕ) (opening : Opening) (before events : List Event)
    → ((event : Event) → Contains events event → event.seat ≢ seat)
    → filter (λ (made : Made). made.event.seat == seat) (made_after opening before events) ≡ []
nobody_made seat opening before [] differ = refl
nobody_made seat opening before (event ∷ events) differ =
    let here : Made = record { event = event; reply = reply_of opening (before ++ event ∷ []) } in
    let rest : List Made =
    filter (λ (made : Made). made.event.seat == seat) (made_after opening (before ++ event ∷ []) events) in
    ap (λ (test : Bool). cond test (here ∷ rest) rest)
    (ne_eqb event.seat seat (differ event (0, omega arith, refl)))
    ∙ nobody_made seat opening (before ++ event ∷ []) events
    (λ other has. differ other (Contains-append_right (event ∷ []) events other has))

module _ {I O G C : Type 0} (terms : Terms I O G C) where
  visits_handle : (old new : PassState) (log : List (DoorStep I O G)) (visits : List (Option Served))
      → AreVisits terms old log visits new → PassHandles terms.policy old new
  visits_handle old new [] [] same =
      ([], ap made_of same ∙ sym (append-nil (made_of old)), tt)
  visits_handle old new (TurnedAway ∷ log) (None ∷ visits) are = visits_handle old new log visits are
  visits_handle old new (LetIn visit ∷ Left reader status writer ∷ log) (Some served ∷ visits) (between, ran, are) =
      pass_then terms.policy old between new (of_visit ran) (visits_handle between new log visits are)
    where
      of_visit : RanVisit terms visit reader status writer old served between → PassHandles terms.policy old between
      of_visit ran =
          let (made, grows, handles) = run_handles (visit_waits terms) terms.policy
          (HadGotBehind terms.contents (terms.contents visit.writer)) terms.delivery
          (IsAtEnd (terms.remaining reader.inner.now)) ran.from ran.to served ran.ran in (
            made,
            ap made_of (sym ran.seen) ∙ grows ∙ ap (λ (pass : PassState). made_of pass ++ made) ran.begun.pass_is,
            handles,
          )
  visits_handle old new log visits are = absurd are

  pub visits_keep_jobs : VisitsKeepJobs terms
  visits_keep_jobs first between log visits gate from to turns unused served begun serves =
      let (made, grows, handles) = visits_handle first between log visits served in
      let (more, grows_more, handles_more) = lines_handle (visit_waits terms) terms.policy from to turns serves in
      let all : made_of to.desk.pass ≡ made ++ more =
      grows_more ∙ ap (λ (pass : PassState). made_of pass ++ more) begun.pass_is
      ∙ ap (λ (mades : List Made). mades ++ more)
      (grows ∙ ap (λ (mades : List Made). mades ++ made) (made_none first unused.unheard)) in
      subst (λ mades. HandlesAll terms.policy [] mades to.held) (sym all)
      (handles_then terms.policy [] [] to.held made more handles handles_more)

  worker_handles : (room : ℕ) (begun : Opening) (history : List Event) (log : List (DoorStep I O G)) (own : List (Option Served))
      (pass : PassState) (one : PassRecord) → IsWorker terms room begun log own pass → one ≡ record_of pass
      → IsRecord history one → HandlesAll terms.policy [] (made_by one.name begun history) []
  worker_handles room begun history log own pass one works is known =
      let (made, grows, handles) = visits_handle works.first pass works.came own works.served in
      let all : made_by one.name begun history ≡ made =
      seen_all begun history one known
      ∙ ap (λ (entry : PassRecord). made_by entry.name begun entry.seen) is
      ∙ ap (λ (opening : Opening). made_by pass.name opening pass.seen) (sym works.opening)
      ∙ grows ∙ ap (λ (mades : List Made). mades ++ made) (made_none works.first works.unused.unheard) in
      subst (λ mades. HandlesAll terms.policy [] mades []) (sym all) handles

  workers_handle : (room : ℕ) (begun : Opening) (history : List Event) (logs : List (List (DoorStep I O G)))
      (visits : List (List (Option Served))) (records : List PassRecord) → AreWorkers terms room begun logs visits records
      → AreRecords history records → (seat : ℕ) → 0 < times_in seat (names_of records)
      → HandlesAll terms.policy [] (made_by seat begun history) []
  workers_handle room begun history logs visits [] are known seat some = absurd (omega (arith, some))
  workers_handle room begun history (log ∷ logs) (own ∷ visits) (one ∷ records) (is, are) (first, rest) seat some =
      by_name (same_or_not one.name seat) (workers_handle room begun history logs visits records are rest seat)
    where
      by_name : (one.name ≡ seat) ⊎ (one.name ≢ seat)
          → (0 < times_in seat (names_of records) → HandlesAll terms.policy [] (made_by seat begun history) [])
          → HandlesAll terms.policy [] (made_by seat begun history) []
      by_name (inl same) later =
          subst (λ s. HandlesAll terms.policy [] (made_by s begun history) []) same
          (worker_handles room begun history log own is.0 one is.1 is.2 first)
      by_name (inr differ) later = later (omega (arith, some, bit_apart one.name seat differ))
  workers_handle room begun history [] [] (one ∷ records) are known seat some = absurd are
  workers_handle room begun history [] (own ∷ visits) (one ∷ records) are known seat some = absurd are
  workers_handle room begun history (log ∷ logs) [] (one ∷ records) are known seat some = absurd are

module _ {I O G C : Type 0} (terms : Terms I O G C) {T : Type 0} where
  pub server_keeps_jobs : ServerKeepsJobs terms T
  server_keeps_jobs begun options report jobs run =
      let history = report.kept.history in
      let hands : AreHands terms.policy begun history empty_hands =
      λ seat. by_seat seat (cases_lt 0 (times_in seat (names_of run.records))) in
      record {
        keeps = jobs_are_kept terms.policy begun history empty_hands jobs
            (subst (λ o. IsLegal o history) run.opening run.holds.legal) hands;
        hands = hands;
      }
    where
      by_seat : (seat : ℕ) → (0 < times_in seat (names_of run.records)) ⊎ (times_in seat (names_of run.records) ≤ 0)
          → HandlesAll terms.policy [] (made_by seat begun report.kept.history) []
      by_seat seat (inl some) =
          workers_handle terms options.calls begun report.kept.history run.logs run.visits run.records run.served
          run.holds.are_records.1 seat some
      by_seat seat (inr none) =
          subst (λ mades. HandlesAll terms.policy [] mades [])
          (sym (nobody_made seat begun [] report.kept.history (λ event has same.
          absurd (omega (
            arith,
            none,
            subst (λ s. 0 < times_in s (names_of run.records)) same
                (named_behind report.kept.history run.first run.records run.holds.are_records run.holds.different
                run.holds.all run.idle event has),
          ))))) tt
