-- What no call of a desk changes, working off its jobs leaves as it is.
use Rattle.std.proofs.Common.{◌≡◌, ℕ, List, [], ◌∷◌, Bool, Result, Ok, Err, ap, ◌∙◌}
use Rattle.rb_delayed.specs.declared.element.Element.{Element}
use Rattle.rb_queue.specs.declared.ask.Ask.{Ask}
use Rattle.rb_queue.specs.declared.reply.Reply.{Reply}
use Rattle.rb_kept.specs.declared.fault.CallFault.{CallFault}
use Rattle.rb_retry.specs.DeskRules.{DeskRules}
use Rattle.rb_retry.specs.Jobs.{FailsTo}
use Rattle.rb_retry.specs.WorkRuns.{WorkRun, RunEnd, done, failed, EndsRun, RunsAlong}
use Rattle.rb_retry.specs.declared.desk_fault.DeskFault.{DeskFault}
use Rattle.rb_retry.specs.declared.verdict.Verdict.{Verdict}
use Rattle.rb_retry.specs.declared.verdict.Verdict.TheVariants.{Again, Dead}

module _ {S X : Type 0} (rules : DeskRules S) (may : Element → Bool → Type 0) (part : S → X)
    (by_step : (old new : S) (asked : ℕ) (ask : Ask) (answer : Result Reply DeskFault)
    → rules.Steps old asked ask answer new → part new ≡ part old) where
  fails_keep : (element : Element) (now : ℕ) (old new : S) (result : Result Verdict (Element × CallFault))
      → FailsTo rules element now old result new → part new ≡ part old
  fails_keep element now old new (Ok (Again again)) (draft, retry, steps) = by_step old new now _ _ steps
  fails_keep element now old new (Ok (Dead dead)) (retry, is_dead, same) = ap part same
  fails_keep element now old new (Err (back, fault)) (draft, retry, steps, is_back) = by_step old new now _ _ steps

  ends_keep : (element : Element) (old new : S) (end : RunEnd) → EndsRun rules may element old end new
      → part new ≡ part old
  ends_keep element old new done (is, same) = ap part same
  ends_keep element old new (failed result) (is, now, at, fails) = fails_keep element now old new result fails

  pub runs_keep : (old new : S) (runs : List WorkRun) → RunsAlong rules may old runs new → part new ≡ part old
  runs_keep old new [] same = ap part same
  runs_keep old new (run ∷ runs) (taken, takes, after, ends, along) =
      runs_keep after new runs along ∙ ends_keep run.element taken after run.end ends
      ∙ by_step old taken 0 _ _ takes
