-- Each visitor that was let in at an entrance was served.
use Rattle.std.proofs.Common.{ℕ, List, [], ◌∷◌, ◌++◌, Option, None, Some, subst, sym}
use Rattle.rb_queue.specs.declared.opening.Opening.{Opening}
use Rattle.rb_lock.specs.Passes.{PassState}
use Rattle.rb_lock.specs.declared.pass_record.PassRecord.{PassRecord}
use Rattle.rb_session.specs.Served.{Served}
use Rattle.rb_serving.specs.DoorSteps.{DoorStep, LetIn, TurnedAway, NoMore, Left, all_steps}
use Rattle.rb_serving.specs.Serving.{ServesAll}
use Rattle.rb_serving.specs.Terms.{Terms}
use Rattle.rb_serving.specs.Visits.{AllServed, AreVisits, AreWorkers, IsServed}
use Rattle.rb_serving.specs.declared.visit.Visit.{Visit}

module _ {I O G C : Type 0} (terms : Terms I O G C) where
  served_more : (visit : Visit I O G) (log later : List (DoorStep I O G)) → IsServed terms visit log
      → IsServed terms visit (log ++ later)
  served_more visit (Left reader status writer ∷ log) later is = is
  served_more visit log later is = absurd is

  all_more : (log later : List (DoorStep I O G)) → AllServed terms log → AllServed terms later
      → AllServed terms (log ++ later)
  all_more [] later all more = more
  all_more (LetIn visit ∷ log) later (is, all) more = (served_more visit log later is, all_more log later all more)
  all_more (TurnedAway ∷ log) later all more = all_more log later all more
  all_more (NoMore ∷ log) later all more = all_more log later all more
  all_more (Left reader status writer ∷ log) later all more = all_more log later all more

  of_visits : (old new : PassState) (log : List (DoorStep I O G)) (visits : List (Option Served))
      → AreVisits terms old log visits new → AllServed terms log
  of_visits old new [] [] are = tt
  of_visits old new (TurnedAway ∷ log) (None ∷ visits) are = of_visits old new log visits are
  of_visits old new (LetIn visit ∷ Left reader status writer ∷ log) (Some served ∷ visits) (between, ran, are) =
      ((old, between, served, ran), of_visits between new log visits are)
  of_visits old new log visits are = absurd are

  of_workers : (room : ℕ) (begun : Opening) (logs : List (List (DoorStep I O G))) (visits : List (List (Option Served)))
      (records : List PassRecord) → AreWorkers terms room begun logs visits records → AllServed terms (all_steps logs)
  of_workers room begun [] [] [] are = tt
  of_workers room begun (log ∷ logs) (own ∷ visits) (one ∷ records) ((pass, works, is), are) =
      all_more log (all_steps logs)
      (subst (AllServed terms) (sym works.no_more)
      (all_more works.came (NoMore ∷ []) (of_visits works.first pass works.came own works.served) tt))
      (of_workers room begun logs visits records are)
  of_workers room begun logs visits records are = absurd are

  pub serves_all : {T : Type 0} → ServesAll terms T
  serves_all begun options report run = of_workers options.calls begun run.logs run.visits run.records run.served
