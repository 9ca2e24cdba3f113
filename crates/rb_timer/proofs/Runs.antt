-- A run, one step longer at its end.
use Rattle.std.proofs.Common.{◌≡◌, ℕ, ◌+◌, ◌<◌, List, [], ◌∷◌, ◌++◌, length, take, get_or, subst, refl}
use Rattle.std.proofs.lemmas.List.{take_more}
use Rattle.rb_timer.specs.Content.{Content}
use Rattle.rb_timer.specs.Run.{Step, Run}
use Rattle.rb_timer.specs.declared.command.TimerCommand.{TimerCommand}
use Rattle.rb_timer.specs.declared.command.TimerAnswer.{TimerAnswer}

module _ (room : ℕ) (between new : Content) (answer : TimerAnswer) where
  -- a run goes on by one step
  pub run_more : (old : Content) (commands : List TimerCommand) (answers : List TimerAnswer) (command : TimerCommand) → Run room old commands answers between → Step room between command answer new → Run room old (commands ++ command ∷ []) (answers ++ answer ∷ []) new
  run_more old [] [] command run step =
      record { between = new; first = subst (λ content. Step room content command answer new) run step; others = refl }
  run_more old (first ∷ commands) (reply ∷ answers) command run step =
      record {
        between = run.between;
        first = run.first;
        others = run_more run.between commands answers command run.others step;
      }
  run_more old [] (reply ∷ answers) command run step = absurd run
  run_more old (first ∷ commands) [] command run step = absurd run

  -- the same, where the commands are taken from a list one after another
  pub run_taken_more : (old : Content) (commands : List TimerCommand) (place : ℕ) (next : TimerCommand) (answers more : List TimerAnswer) → place < length commands → more ≡ answers ++ answer ∷ [] → Run room old (take place commands) answers between → Step room between (get_or commands place next) answer new → Run room old (take (place + 1) commands) more new
  run_taken_more old commands place next answers more within pushed run step =
      rw (take_more commands place next, pushed)
      (run_more old (take place commands) answers (get_or commands place next) run step)
