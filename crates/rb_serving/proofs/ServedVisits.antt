-- Visits that were served, one after the other, and their counts.
use Rattle.std.proofs.Common.{◌≡◌, ℕ, List, [], ◌∷◌, ◌++◌, Option, None, Some, Result, refl, sym, subst}
use Rattle.std.proofs.Common.{ap, ap₂, ◌∙◌, arith, length-append, append_assoc}
use Rattle.std.proofs.lemmas.List.Sums.{sum_by-append, sum_by_push}
use Rattle.rb_queue.specs.declared.opening.Opening.{Opening}
use Rattle.rb_lock.specs.Passes.{PassState, record_of}
use Rattle.rb_lock.specs.declared.pass_record.PassRecord.{PassRecord}
use Rattle.rb_session.specs.Served.{Served}
use Rattle.rb_session.specs.declared.ended.Ended.{Ended}
use Rattle.rb_session.specs.declared.session_fault.SessionFault.{SessionFault}
use Rattle.rb_serving.specs.Serving.{IsWorked}
use Rattle.rb_serving.specs.Terms.{Terms}
use Rattle.rb_serving.specs.VisitCounts.{both_counts, ended_visit}
use Rattle.rb_serving.specs.DoorSteps.{DoorStep, Sees, LetIn, TurnedAway, Left}
use Rattle.rb_serving.specs.Visits.{AreVisits, IsWorker, AreWorkers, counts_at, counts_of}
use Rattle.rb_serving.specs.declared.visit_counts.VisitCounts.{VisitCounts}

-- counts are the same if each of the three is
same_counts : (one other : VisitCounts) → one.sessions ≡ other.sessions → one.faults ≡ other.faults → one.lost ≡ other.lost
    → one ≡ other
same_counts one other sessions faults lost i = record { sessions = sessions i; faults = faults i; lost = lost i }

one_session : (visit : Option Served) → (counts_at visit).sessions ≡ 1
one_session None = refl
one_session (Some visit) = refl

-- the counts of some visits, and then of others
pub counts_both : (one other : List (Option Served))
    → both_counts (counts_of one) (counts_of other) ≡ counts_of (one ++ other)
counts_both one other = same_counts _ _
    (omega (arith, length-append one other))
    (omega (arith, sum_by-append (λ visit. (counts_at visit).faults) one other))
    (omega (arith, sum_by-append (λ visit. (counts_at visit).lost) one other))

-- and of one visit more
counts_more : (visits : List (Option Served)) (visit : Option Served)
    → both_counts (counts_of visits) (counts_at visit) ≡ counts_of (visits ++ visit ∷ [])
counts_more visits visit = same_counts _ _
    (omega (arith, length-append visits (visit ∷ []), one_session visit))
    (omega (arith, sum_by_push (λ one. (counts_at one).faults) visits visit))
    (omega (arith, sum_by_push (λ one. (counts_at one).lost) visits visit))

-- the pass called for visitors, and then for more of them
pub worked_on : (old mid new : PassState) → IsWorked old mid → IsWorked mid new → IsWorked old new
worked_on old mid new first then = record {
  table = then.table ∙ first.table;
  name = then.name ∙ first.name;
  parts = then.parts ∙ first.parts;
  folded = then.folded ∙ first.folded;
  capacity = then.capacity ∙ first.capacity;
  opening = then.opening ∙ first.opening;
}

-- a session that ended so counts as one visit
pub counts_session : (visit counted : VisitCounts) (ended : Result Ended SessionFault) (served : Served) → visit ≡ counted
    → counted ≡ ended_visit ended → served.ended ≡ ended → visit ≡ counts_at (Some served)
counts_session visit counted ended served is counts same = is ∙ counts ∙ ap ended_visit (sym same)

module _ {I O G C : Type 0} (terms : Terms I O G C) where
  -- some visits were served at an entrance, and then others
  visits_append : (old mid new : PassState) (log later : List (DoorStep I O G)) (visits more : List (Option Served))
      → AreVisits terms old log visits mid → AreVisits terms mid later more new
      → AreVisits terms old (log ++ later) (visits ++ more) new
  visits_append old mid new [] later [] more same are = subst (λ pass. AreVisits terms pass later more new) same are
  visits_append old mid new (TurnedAway ∷ log) later (None ∷ visits) more first are =
      visits_append old mid new log later visits more first are
  visits_append old mid new (LetIn visit ∷ Left reader status writer ∷ log) later (Some served ∷ visits) more
      (between, ran, first) are =
      (between, ran, visits_append between mid new log later visits more first are)
  visits_append old mid new log later visits more first are = absurd first

  -- one worker more
  pub workers_more : (room : ℕ) (begun : Opening) (logs : List (List (DoorStep I O G))) (visits : List (List (Option Served)))
      (records : List PassRecord) (log : List (DoorStep I O G)) (own : List (Option Served)) (pass : PassState)
      → AreWorkers terms room begun logs visits records → IsWorker terms room begun log own pass
      → AreWorkers terms room begun (logs ++ log ∷ []) (visits ++ own ∷ []) (records ++ record_of pass ∷ [])
  workers_more room begun [] [] [] log own pass are last = ((pass, last, refl), tt)
  workers_more room begun (first ∷ logs) (visits ∷ others) (one ∷ records) log own pass (is, are) last =
      (is, workers_more room begun logs others records log own pass are last)
  workers_more room begun logs visits records log own pass are last = absurd are

  -- What a worker has done so far: its pass served these visits, they are counted, and they are all that happened at its
  -- entrance.
  pub record HasServed {D : Type 0} (has_seen : D → List (DoorStep I O G) → Type 0) (door : D) (old new : PassState)
      (counts : VisitCounts) : Type 0 where
    pub came : List (DoorStep I O G)
    pub seen : has_seen door came
    pub visits : List (Option Served)
    pub served : AreVisits terms old came visits new
    pub counted : counts ≡ counts_of visits

  module _ {D : Type 0} (has_seen : D → List (DoorStep I O G) → Type 0) where
    -- one thing happened at the entrance, and then another
    pub seen_both : (one mid other : D) (first second : DoorStep I O G)
        → Sees has_seen one first mid → Sees has_seen mid second other
        → (log : List (DoorStep I O G)) → has_seen one log → has_seen other (log ++ first ∷ second ∷ [])
    seen_both one mid other first second now then log seen =
        subst (has_seen other) (append_assoc log (first ∷ []) (second ∷ [])) (then (log ++ first ∷ []) (now log seen))

    -- one visitor more came, and is counted
    pub works_more : (door next_door : D) (old mid new : PassState) (counts more next : VisitCounts)
        (steps : List (DoorStep I O G)) (visit : Option Served) → HasServed has_seen door old mid counts
        → ((log : List (DoorStep I O G)) → has_seen door log → has_seen next_door (log ++ steps))
        → AreVisits terms mid steps (visit ∷ []) new
        → more ≡ counts_at visit → next ≡ both_counts counts more → HasServed has_seen next_door old new next
    works_more door next_door old mid new counts more next steps visit works sees comes counted is = record {
      came = works.came ++ steps;
      seen = sees works.came works.seen;
      visits = works.visits ++ visit ∷ [];
      served = visits_append old mid new works.came steps works.visits (visit ∷ []) works.served comes;
      counted = is ∙ ap₂ both_counts works.counted counted ∙ counts_more works.visits visit;
    }
