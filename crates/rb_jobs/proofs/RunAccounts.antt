-- Scripts and servers account for each job.
use Rattle.std.proofs.Common.{◌≡◌, ◌≢◌, ℕ, zero, suc, ◌+◌, ◌<◌, ◌≤◌, ◌⊎◌, inl, inr, List, [], ◌∷◌, ◌++◌, Bool, cond, Option, None, Some, refl, sym, ap, subst, ◌∙◌, arith, eq-eqb, ne_eqb, Contains}
use Rattle.std.proofs.lemmas.List.Elements.{Contains-append_right}
use Rattle.std.proofs.lemmas.List.Sums.{sum_by-append, sum_by-cons}
use Rattle.std.specs.Prelude.{filter, sum_by, ◌==◌}
use Rattle.std.specs.List.{AllZip}
use Rattle.rb_queue.specs.History.{IsLegal}
use Rattle.rb_queue.specs.declared.event.Event.{Event}
use Rattle.rb_queue.specs.declared.opening.Opening.{Opening}
use Rattle.rb_queue.proofs.Options.{same_or_not}
use Rattle.rb_lock.specs.Records.{times_in}
use Rattle.rb_lock.proofs.Sums.{bit_same, bit_apart}
use Rattle.rb_retry.specs.Made.{Made, made_after, made_by}
use Rattle.rb_retry.specs.declared.policy.Policy.{Policy}
use Rattle.rb_session.specs.Served.{Served}
use Rattle.rb_jobs.proofs.ScriptEvents.{records_by_script}
use Rattle.rb_jobs.specs.ServerEvents.{GrowsByVisits, IsOfSessions}
use Rattle.rb_serving.specs.Terms.{Terms}
use Rattle.rb_jobs.proofs.GatheredNames.{of_history}
use Rattle.rb_jobs.proofs.ServerEvents.{gathers_sessions}
use Rattle.rb_jobs.specs.JobSums.{JobSums, ScriptAccounts, ServerAccounts, jobs_of, jobs_of_visits, jobs_of_workers}
use Rattle.rb_jobs.proofs.Accounts.{Balance, accounts, gifts_in, gifts_of, named_in, named_of, offers_in, offers_of, run_told}
use Rattle.rb_jobs.proofs.KeptHands.{legal_script}

pub script_accounts : {W : Type 0} (sends : W → Option (List ℕ)) → ScriptAccounts sends
script_accounts sends got policy calls delivery rest opening served to ran =
    let (run, begun, moment) = records_by_script sends got policy calls delivery rest opening served to ran in
    let all : run.by_lines ++ run.by_closing ≡ made_after opening [] to.log.history =
    sym run.grows ∙ ap (λ (o : Opening). made_after o [] to.log.history) begun in (
      run,
      accounts opening to.log.history (λ amount. jobs_of amount run)
          (legal_script sends got policy calls delivery rest opening served to ran)
          (λ amount. subst (λ mades. Balance (gifts_in amount mades) (offers_in amount mades) (named_in amount mades) (jobs_of amount run))
          all (run_told amount run)),
    )

module _ (amount : ℕ → ℕ) (policy : Policy) where
  -- what visits add to the balance
  record Adds (old new : List Made) (jobs : JobSums) : Type 0 where
    even : gifts_in amount new + offers_in amount old + jobs.begun
        ≡ offers_in amount new + gifts_in amount old + jobs.done + jobs.dead + jobs.lost
    few : jobs.begun + named_in amount old ≤ named_in amount new

  visits_told : (old new : List Made) (visits : List (Option Served)) → (grows : GrowsByVisits policy old visits new)
      → Adds old new (jobs_of_visits amount policy old visits new grows)
  visits_told old new [] same = record {
    even = omega (arith, ap (gifts_in amount) same, ap (offers_in amount) same);
    few = omega (arith, ap (named_in amount) same);
  }
  visits_told old new (None ∷ visits) grows = visits_told old new visits grows
  visits_told old new (Some served ∷ visits) (between, (rest, run), grows) =
      let made : List Made = run.by_lines ++ run.by_closing in
      let adds = visits_told between new visits grows in
      let told = run_told amount run in record {
        even = omega (
          arith,
          adds.even,
          told.even,
          ap (gifts_in amount) run.grows,
          ap (offers_in amount) run.grows,
          sum_by-append (gifts_of amount) old made,
          sum_by-append (offers_of amount) old made,
        );
        few = omega (
          arith,
          adds.few,
          told.few,
          ap (named_in amount) run.grows,
          sum_by-append (named_of amount) old made,
        );
      }

-- a number that stands in a list is there
times_from : (number : ℕ) (numbers : List ℕ) → Contains numbers number → 0 < times_in number numbers
times_from number [] (place, within, at) = absurd (omega (arith, within))
times_from number (first ∷ numbers) (zero, within, at) =
    subst (λ n. 0 < times_in n (first ∷ numbers)) at (omega (arith, bit_same first))
times_from number (first ∷ numbers) (suc place, within, at) =
    omega (arith, times_from number numbers (place, omega (arith, within), at))

module _ (f : Made → ℕ) where
  -- the sum over the events of one seat, and over those of several
  abbrev own_sum : ℕ → List Made → ℕ
  own_sum name mades = sum_by f (filter (λ (made : Made). made.event.seat == name) mades)

  abbrev names_sum : List ℕ → List Made → ℕ
  names_sum [] mades = 0
  names_sum (name ∷ names) mades = own_sum name mades + names_sum names mades

  own_more : (name : ℕ) (made : Made) (mades : List Made) → made.event.seat ≡ name
      → own_sum name (made ∷ mades) ≡ f made + own_sum name mades
  own_more name made mades is =
      let rest : List Made = filter (λ (other : Made). other.event.seat == name) mades in
      ap (λ (b : Bool). sum_by f (cond b (made ∷ rest) rest)) (eq-eqb made.event.seat name is)
      ∙ sum_by-cons f made rest

  own_same : (name : ℕ) (made : Made) (mades : List Made) → made.event.seat ≢ name
      → own_sum name (made ∷ mades) ≡ own_sum name mades
  own_same name made mades differ =
      let rest : List Made = filter (λ (other : Made). other.event.seat == name) mades in
      ap (λ (b : Bool). sum_by f (cond b (made ∷ rest) rest)) (ne_eqb made.event.seat name differ)

  none_more : (names : List ℕ) (made : Made) (mades : List Made) → times_in made.event.seat names ≡ 0
      → names_sum names (made ∷ mades) ≡ names_sum names mades
  none_more [] made mades none = refl
  none_more (name ∷ names) made mades none =
      by_name (same_or_not name made.event.seat) (none_more names made mades)
    where
      by_name : (name ≡ made.event.seat) ⊎ (name ≢ made.event.seat)
          → (times_in made.event.seat names ≡ 0 → names_sum names (made ∷ mades) ≡ names_sum names mades)
          → names_sum (name ∷ names) (made ∷ mades) ≡ names_sum (name ∷ names) mades
      by_name (inl same) later =
          absurd (omega (arith, none, times_from made.event.seat (name ∷ names) (0, omega arith, same)))
      by_name (inr differ) later =
          omega (
            arith,
            own_same name made mades (λ same. differ (sym same)),
            later (omega (arith, none, bit_apart name made.event.seat differ)),
          )

  one_more : (names : List ℕ) (made : Made) (mades : List Made) → times_in made.event.seat names ≡ 1
      → names_sum names (made ∷ mades) ≡ f made + names_sum names mades
  one_more [] made mades one = absurd (omega (arith, one))
  one_more (name ∷ names) made mades one =
      by_name (same_or_not name made.event.seat) (one_more names made mades)
    where
      by_name : (name ≡ made.event.seat) ⊎ (name ≢ made.event.seat)
          → (times_in made.event.seat names ≡ 1 → names_sum names (made ∷ mades) ≡ f made + names_sum names mades)
          → names_sum (name ∷ names) (made ∷ mades) ≡ f made + names_sum (name ∷ names) mades
      by_name (inl same) later =
          let here : times_in name (name ∷ names) ≡ 1 = ap (λ (n : ℕ). times_in n (name ∷ names)) same ∙ one in
          let none : times_in made.event.seat names ≡ 0 =
          ap (λ (n : ℕ). times_in n names) (sym same) ∙ omega (arith, here, bit_same name) in
          omega (arith, own_more name made mades (sym same), none_more names made mades none)
      by_name (inr differ) later =
          omega (
            arith,
            own_same name made mades (λ same. differ (sym same)),
            later (omega (arith, one, bit_apart name made.event.seat differ)),
          )

  names_weigh : (names : List ℕ) (mades : List Made)
      → ((made : Made) → Contains mades made → times_in made.event.seat names ≡ 1)
      → names_sum names mades ≡ sum_by f mades
  names_weigh names [] once = none names
    where
      none : (names : List ℕ) → names_sum names [] ≡ 0
      none [] = refl
      none (name ∷ names) = omega (arith, none names)
  names_weigh names (made ∷ mades) once =
      one_more names made mades (once made (0, omega arith, refl))
      ∙ omega (
        arith,
        names_weigh names mades (λ other has. once other (Contains-append_right (made ∷ []) mades other has)),
        sum_by-cons f made mades,
      )

-- the balance of these names' events
abbrev NamesBalance : (ℕ → ℕ) → List ℕ → List Made → JobSums → Type 0
NamesBalance amount names mades jobs =
    Balance (names_sum (gifts_of amount) names mades) (names_sum (offers_of amount) names mades)
    (names_sum (named_of amount) names mades) jobs

workers_told : (amount : ℕ → ℕ) (policy : Policy) (begun : Opening) (history : List Event) (names : List ℕ)
    (visits : List (List (Option Served)))
    → (all : AllZip (λ (name : ℕ) (own : List (Option Served)). GrowsByVisits policy [] own (made_by name begun history))
    names visits)
    → NamesBalance amount names (made_after begun [] history) (jobs_of_workers amount policy begun history names visits all)
workers_told amount policy begun history [] [] zip = record { even = refl; few = omega arith }
workers_told amount policy begun history [] (own ∷ visits) zip = absurd zip
workers_told amount policy begun history (name ∷ names) [] zip = absurd zip
workers_told amount policy begun history (name ∷ names) (own ∷ visits) (first, rest) =
    let adds = visits_told amount policy [] (made_by name begun history) own first in
    let others = workers_told amount policy begun history names visits rest in record {
      even = omega (arith, adds.even, others.even);
      few = omega (arith, adds.few, others.few);
    }

module _ {I O G C : Type 0} (terms : Terms I O G C) {T : Type 0} where
  pub server_accounts : ServerAccounts terms T
  server_accounts begun options report run =
      let history = report.kept.history in
      let sessions = gathers_sessions terms {T = T} begun options report run in
      let once = (λ (made : Made) (has : Contains (made_after begun [] history) made).
      once_named sessions made has) in (
        sessions,
        accounts begun history
            (λ amount. jobs_of_workers amount terms.policy begun history sessions.names run.visits sessions.workers)
            (subst (λ o. IsLegal o history) run.opening run.holds.legal)
            (λ amount. record {
              even = omega (
                arith,
                (workers_told amount terms.policy begun history sessions.names run.visits sessions.workers).even,
                names_weigh (gifts_of amount) sessions.names (made_after begun [] history) once,
                names_weigh (offers_of amount) sessions.names (made_after begun [] history) once,
              );
              few = omega (
                arith,
                (workers_told amount terms.policy begun history sessions.names run.visits sessions.workers).few,
                names_weigh (named_of amount) sessions.names (made_after begun [] history) once,
              );
            }),
      )
    where
      once_named : (sessions : IsOfSessions terms.policy begun report.kept.history run.visits) → (made : Made)
          → Contains (made_after begun [] report.kept.history) made → times_in made.event.seat sessions.names ≡ 1
      once_named sessions made has =
          omega (
            arith,
            sessions.different made.event.seat,
            times_from made.event.seat sessions.names
                (sessions.no_other made.event (of_history begun [] report.kept.history made has)),
          )
