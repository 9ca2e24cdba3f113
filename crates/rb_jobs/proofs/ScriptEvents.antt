-- The history of a script is what a run of a session adds to an empty one.
use Rattle.std.proofs.Common.{◌≡◌, ℕ, List, [], ◌++◌, Option, sym, ap, ◌∙◌}
use Rattle.rb_queue.specs.declared.event.Event.{Event}
use Rattle.rb_retry.specs.KeptSteps.{KeptState}
use Rattle.rb_retry.specs.Made.{Made, made_after}
use Rattle.rb_jobs.specs.Events.{made_in, latest}
use Rattle.rb_jobs.proofs.RunEvents.{grows_so, records_by_run}
use Rattle.rb_jobs.specs.ScriptEvents.{RecordsByScript}

-- what an empty history grows by is all of it
grown_from_none : (from to : KeptState) (made : List Made) → from.log.history ≡ []
    → made_in to.log ≡ made_in from.log ++ made → made_in to.log ≡ made
grown_from_none from to made none grows =
    grows ∙ ap (λ (events : List Event). made_after from.log.opening [] events ++ made) none

pub records_by_script : {W : Type 0} (sends : W → Option (List ℕ)) → RecordsByScript sends
records_by_script sends got policy calls delivery rest opening served to ran =
    let run = records_by_run sends policy got delivery rest ran.from to served ran.ran in
    let so = grows_so (λ made grows. grown_from_none ran.from to made ran.new.log.history grows) run.0 in (
      so.0,
      run.2 ∙ ran.new.log.opening_is,
      run.1 ∙ ap (λ (moment : ℕ). latest moment run.0.lines) ran.new.moment ∙ ap (latest opening.last_at) (sym so.1),
    )
