-- The calls of each worker are those of its visits, each with its reply, and the history that is gathered has no other.
use Rattle.std.proofs.Common.{◌≡◌, ◌≢◌, ℕ, ◌<◌, List, [], ◌∷◌, ◌++◌, length, Option, None, Some, refl, sym, ap, subst, ◌∙◌, inl, inr, arith, Contains}
use Rattle.std.proofs.lemmas.List.{append_cancel_left, nil_from_length}
use Rattle.std.proofs.lemmas.List.Elements.{Contains-append_left, Contains-append_right, Contains-append_cases}
use Rattle.std.specs.Prelude.{◌⊎◌}
use Rattle.std.specs.List.{AllZip}
use mathlib.Core.Logic.{dite}
use native.Mathlib.Decide.{ℕ_discrete}
use Rattle.rb_queue.specs.Counts.{events_of}
use Rattle.rb_queue.specs.declared.event.Event.{Event}
use Rattle.rb_queue.specs.declared.opening.Opening.{Opening}
use Rattle.rb_lock.specs.Passes.{PassState, record_of}
use Rattle.rb_lock.specs.Records.{AreRecords, IsRecord, names_of, times_in}
use Rattle.rb_lock.specs.declared.pass_record.PassRecord.{PassRecord}
use Rattle.rb_lock.proofs.Sums.{bit_apart}
use Rattle.rb_retry.specs.Made.{Made, made_after, made_by}
use Rattle.rb_retry.specs.declared.policy.Policy.{Policy}
use Rattle.rb_shared_desk.specs.SharedLaws.{length_own, made_by-same}
use Rattle.rb_session.specs.Served.{Served}
use Rattle.rb_jobs.proofs.RunEvents.{grows_so}
use Rattle.rb_serving.specs.Terms.{Terms}
use Rattle.rb_jobs.specs.ServerEvents.{GathersSessions, GrowsByVisits, IsOfOne, MadeByVisit, made_of}
use Rattle.rb_serving.specs.DoorSteps.{DoorStep, LetIn, TurnedAway, Left}
use Rattle.rb_serving.specs.Visits.{AreVisits, AreWorkers, IsWorker, all_visits}
use Rattle.rb_jobs.proofs.GatheredNames.{contained, named_behind, of_history, of_its_seat}
use Rattle.rb_jobs.proofs.SharedRuns.{calls_by_visit}

-- a pass that has seen no event of its name has made nothing
pub made_none : (pass : PassState) → events_of pass.seen pass.name ≡ [] → made_of pass ≡ []
made_none pass unheard =
    nil_from_length (made_of pass) (length_own pass.name pass.opening [] pass.seen ∙ ap length unheard)

-- what the history has of a record's name is what had been seen of it
pub seen_all : (begun : Opening) (history : List Event) (one : PassRecord) → IsRecord history one
    → made_by one.name begun history ≡ made_by one.name begun one.seen
seen_all begun history one known =
    made_by-same one.name begun one.seen history known.begins (known.all ∙ sym known.known)

module _ {I O G C : Type 0} (terms : Terms I O G C) where
  -- the calls of a pass that served visits grow by theirs
  grows_by_visits : (old new : PassState) (log : List (DoorStep I O G)) (visits : List (Option Served))
      → AreVisits terms old log visits new → GrowsByVisits terms.policy (made_of old) visits (made_of new)
  grows_by_visits old new [] [] same = ap made_of same
  grows_by_visits old new (TurnedAway ∷ log) (None ∷ visits) are = grows_by_visits old new log visits are
  grows_by_visits old new (LetIn visit ∷ Left reader status writer ∷ log) (Some served ∷ visits) (between, ran, are) = (
    made_of between,
    (terms.remaining reader.inner.now, calls_by_visit terms visit reader status writer old between served ran),
    grows_by_visits between new log visits are,
  )
  grows_by_visits old new log visits are = absurd are

  -- a worker had made no call before, and its calls are all that the history has of it
  of_worker : (room : ℕ) (begun : Opening) (history : List Event) (log : List (DoorStep I O G)) (own : List (Option Served)) (pass : PassState) (one : PassRecord)
      → IsWorker terms room begun log own pass → one ≡ record_of pass → IsRecord history one
      → GrowsByVisits terms.policy [] own (made_by one.name begun history)
  of_worker room begun history log own pass one works is known =
      let same : made_of pass ≡ made_by one.name begun history =
      ap (λ (opening : Opening). made_by pass.name opening pass.seen) works.opening
      ∙ ap (λ (entry : PassRecord). made_by entry.name begun entry.seen) (sym is)
      ∙ sym (seen_all begun history one known) in
      subst (λ (after : List Made). GrowsByVisits terms.policy [] own after) same
      (subst (λ (before : List Made). GrowsByVisits terms.policy before own (made_of pass)) (made_none works.first works.unused.unheard)
      (grows_by_visits works.first pass works.came own works.served))

  of_workers : (room : ℕ) (begun : Opening) (history : List Event) (logs : List (List (DoorStep I O G))) (visits : List (List (Option Served))) (records : List PassRecord)
      → AreWorkers terms room begun logs visits records → AreRecords history records
      → AllZip (λ (name : ℕ) (own : List (Option Served)). GrowsByVisits terms.policy [] own (made_by name begun history)) (names_of records) visits
  of_workers room begun history [] [] [] are known = tt
  of_workers room begun history (log ∷ logs) (own ∷ visits) (one ∷ records) (is, are) (first, rest) = (
    of_worker room begun history log own is.0 one is.1 is.2 first,
    of_workers room begun history logs visits records are rest,
  )
  of_workers room begun history logs visits records are known = absurd are

module _ (policy : Policy) where
  -- what is of some visits is of them and of others
  of_front : (one : Made) (visits others : List (Option Served)) → IsOfOne policy one visits → IsOfOne policy one (visits ++ others)
  of_front one visits others (served, among, made) = (served, Contains-append_left visits others (Some served) among, made)

  of_back : (one : Made) (others visits : List (Option Served)) → IsOfOne policy one visits → IsOfOne policy one (others ++ visits)
  of_back one others visits (served, among, made) = (served, Contains-append_right others visits (Some served) among, made)

  -- what stands behind a visit stood there before, or the visit made it
  of_visit : (one : Made) (before after : List Made) (served : Served) → MadeByVisit policy served (λ made. after ≡ before ++ made)
      → Contains after one → Contains before one ⊎ MadeByVisit policy served (λ made. Contains made one)
  of_visit one before after served (rest, run) has =
      let all : List Made = run.by_lines ++ run.by_closing in
      elim (Contains-append_cases before all one (subst (λ (mades : List Made). Contains mades one) run.grows has)) [
        | inl old ↦ inl old
        | inr made ↦
            inr (
              rest,
              (grows_so (λ other grows. subst (λ (mades : List Made). Contains mades one)
                  (append_cancel_left before all other (sym run.grows ∙ grows)) made) run).0,
            )
      ]

  -- and by more of them
  of_visits : (one : Made) (before after : List Made) (visits : List (Option Served)) → GrowsByVisits policy before visits after
      → Contains after one → Contains before one ⊎ IsOfOne policy one visits
  of_visits one before after [] same has = inl (subst (λ (mades : List Made). Contains mades one) same has)
  of_visits one before after (None ∷ visits) grows has =
      elim (of_visits one before after visits grows has) [
        | inl old ↦ inl old
        | inr later ↦ inr (of_back one (None ∷ []) visits later)
      ]
  of_visits one before after (Some served ∷ visits) (between, made, grows) has =
      elim (of_visits one between after visits grows has) [
        | inl here ↦ elim (of_visit one before between served made here) [
          | inl old ↦ inl old
          | inr first ↦ inr (served, (0, omega arith, refl), first)
        ]
        | inr later ↦ inr (of_back one (Some served ∷ []) visits later)
      ]

  -- what one worker made is of one of its visits
  of_own : (one : Made) (own : List (Option Served)) (mades : List Made) → GrowsByVisits policy [] own mades → Contains mades one → IsOfOne policy one own
  of_own one own mades grows has =
      elim (of_visits one [] mades own grows has) [
        | inl none ↦ absurd (omega (arith, none.1))
        | inr of ↦ of
      ]

  -- what has the name of a worker is of one of the visits
  of_names : (begun : Opening) (history : List Event) (one : Made) (names : List ℕ) (visits : List (List (Option Served)))
      → AllZip (λ (name : ℕ) (own : List (Option Served)). GrowsByVisits policy [] own (made_by name begun history)) names visits
      → Contains (made_after begun [] history) one → 0 < times_in one.event.seat names → IsOfOne policy one (all_visits visits)
  of_names begun history one [] [] zip has some = absurd (omega (arith, some))
  of_names begun history one [] (own ∷ visits) zip has some = absurd zip
  of_names begun history one (name ∷ names) [] zip has some = absurd zip
  of_names begun history one (name ∷ names) (own ∷ visits) (first, rest) has some =
      dite (ℕ_discrete name one.event.seat)
      (λ (is : name ≡ one.event.seat).
      of_front one own (all_visits visits) (of_own one own (made_by name begun history) first
      (subst (λ (seat : ℕ). Contains (made_by seat begun history) one) (sym is) (of_its_seat (made_after begun [] history) one has))))
      (λ (apart : name ≢ one.event.seat).
      of_back one own (all_visits visits)
      (of_names begun history one names visits rest has (omega (arith, some, bit_apart name one.event.seat apart))))

module _ {I O G C : Type 0} (terms : Terms I O G C) {T : Type 0} where
  pub gathers_sessions : GathersSessions terms T
  gathers_sessions begun options report run =
      let history = report.kept.history in
      let holds = run.holds in
      let workers = of_workers terms options.calls begun history run.logs run.visits run.records run.served holds.are_records.1 in
      let among = named_behind history run.first run.records holds.are_records holds.different holds.all run.idle in record {
        names = names_of run.records;
        different = λ number. omega (arith, holds.different number);
        workers = workers;
        no_other = λ event has. contained event.seat (names_of run.records) (among event has);
        each = λ made has. of_names terms.policy begun history made (names_of run.records) run.visits workers has
            (among made.event (of_history begun [] history made has));
      }
