-- Passes of workers that are folded into the first, one after the other.
use Rattle.std.proofs.Common.{◌≡◌, ℕ, ◌+◌, ◌-◌, ◌<◌, List, [], ◌∷◌, ◌++◌, refl, sym, subst, ap, ap₂, ◌∙◌}
use Rattle.std.proofs.Common.{arith, length-append, append_assoc}
use Rattle.std.proofs.lemmas.List.{append-nil, flat_map_more}
use Rattle.rb_lock.specs.Passes.{PassState, Learns, record_of, with_parts, folded_with}
use Rattle.rb_lock.specs.declared.pass_record.PassRecord.{PassRecord}
use Rattle.rb_serving.specs.DoorSteps.{DoorStep, Gathers, all_steps}
use Rattle.rb_serving.specs.Terms.{Terms}
use Rattle.rb_serving.specs.Serving.{FoldsWorkers, GathersWorkers, IsWorkerResult}
use Rattle.rb_serving.specs.VisitCounts.{both_counts}
use Rattle.rb_serving.specs.Visits.{AreWorkers, all_visits, counts_of}
use Rattle.rb_serving.specs.declared.visit_counts.VisitCounts.{VisitCounts}
use Rattle.rb_serving.proofs.ServedVisits.{counts_both, workers_more}

module _ {I O G C : Type 0} (terms : Terms I O G C) where
  -- no worker leaves the pass as it is
  pub folds_none : (count : ℕ) (pass : PassState) (counts : VisitCounts) → count ≡ 0 → counts ≡ counts_of []
      → FoldsWorkers terms count [] pass pass counts
  folds_none count pass counts none uncounted = record {
    records = [];
    many = sym none;
    visits = [];
    served = tt;
    counted = uncounted;
    folded = sym (append-nil pass.folded);
    table = refl;
    parts = refl;
    capacity = refl;
    opening = refl;
    mine = refl;
  }

  -- one worker more is folded in last
  pub folds_one_more : (count : ℕ) (logs : List (List (DoorStep I O G))) (log : List (DoorStep I O G))
      (old cut rest done new : PassState) (counts more : VisitCounts) → 0 < count
      → Learns (with_parts old cut.parts) cut → cut.mine ≡ old.mine → cut.parts + done.parts ≡ old.parts → FoldsWorkers terms (count - 1) logs cut rest more
      → IsWorkerResult terms cut.capacity cut.opening log done counts → new ≡ folded_with rest done
      → FoldsWorkers terms count (logs ++ log ∷ []) old new (both_counts more counts)
  folds_one_more count logs log old cut rest done new counts more some learns mine parts others worked is =
      let last : List PassRecord = record_of done ∷ [] in record {
        records = others.records ++ last;
        many = omega (arith, some, others.many, length-append others.records last);
        visits = others.visits ++ worked.visits ∷ [];
        served = subst (λ room. AreWorkers terms room old.opening (logs ++ log ∷ []) (others.visits ++ worked.visits ∷ []) (others.records ++ last)) learns.capacity
            (subst (λ begun. AreWorkers terms cut.capacity begun (logs ++ log ∷ []) (others.visits ++ worked.visits ∷ []) (others.records ++ last)) learns.opening
            (workers_more terms cut.capacity cut.opening logs others.visits others.records log worked.visits done others.served
            worked.works));
        counted = ap₂ both_counts others.counted worked.counted ∙ counts_both (all_visits others.visits) worked.visits
            ∙ ap counts_of (flat_map_more (λ own. own) [] others.visits worked.visits);
        folded = ap (λ (pass : PassState). pass.folded) is
            ∙ ap₂ (λ (front back : List PassRecord). front ++ record_of done ∷ back)
            (others.folded ∙ ap (λ (front : List PassRecord). front ++ others.records) learns.folded) worked.alone
            ∙ append_assoc old.folded others.records last;
        table = ap (λ (pass : PassState). pass.table) is ∙ others.table ∙ learns.table;
        parts = ap (λ (pass : PassState). pass.parts) is ∙ ap (λ (parts : ℕ). parts + done.parts) others.parts ∙ parts;
        capacity = ap (λ (pass : PassState). pass.capacity) is ∙ others.capacity ∙ learns.capacity;
        opening = ap (λ (pass : PassState). pass.opening) is ∙ others.opening ∙ learns.opening;
        mine = ap (λ (pass : PassState). pass.mine) is ∙ others.mine ∙ mine;
      }

  module _ {D : Type 0} (has_joined : D → ℕ → List (DoorStep I O G) → Type 0) where
    -- no entrance was split off, and no pass folded in
    pub gathers_none : (count : ℕ) (door : D) (pass : PassState) (counts : VisitCounts) → count ≡ 0
        → counts ≡ counts_of [] → GathersWorkers terms has_joined count door pass door pass counts
    gathers_none count door pass counts none uncounted = record {
      logs = [];
      gathers = λ out before joined. subst (has_joined door out) (sym (append-nil before)) joined;
      folds = folds_none count pass counts none uncounted;
    }

    -- an entrance that was split off first is taken back last
    pub gathers_more : (has_seen : D → List (DoorStep I O G) → Type 0) (door cut rest new other : D)
        (logs : List (List (DoorStep I O G))) (log : List (DoorStep I O G))
        → ((out : ℕ) (before : List (DoorStep I O G)) → has_joined door out before → has_joined cut (out + 1) before)
        → Gathers has_joined cut (all_steps logs) rest → has_seen other log
        → ((out : ℕ) (before own : List (DoorStep I O G)) → has_joined rest (out + 1) before → has_seen other own
        → has_joined new out (before ++ own))
        → Gathers has_joined door (all_steps (logs ++ log ∷ [])) new
    gathers_more has_seen door cut rest new other logs log splits gathers seen joins out before joined =
        subst (has_joined new out) (append_assoc before (all_steps logs) log
        ∙ ap (λ (steps : List (DoorStep I O G)). before ++ steps) (flat_map_more (λ own. own) [] logs log))
        (joins out (before ++ all_steps logs) log (gathers (out + 1) before (splits out before joined)) seen)
