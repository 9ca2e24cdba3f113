-- One run more, behind those before it.
use Rattle.std.proofs.Common.{◌≡◌, ℕ, ◌+◌, ◌≤◌, Bool, List, [], ◌∷◌, ◌++◌, refl, ap, ◌∙◌, arith, length, length-append, Some, Ok, Err}
use Rattle.rb_delayed.specs.declared.element.Element.{Element}
use Rattle.rb_queue.specs.declared.ask.Ask.{Ask}
use Rattle.rb_queue.specs.declared.ask.Ask.TheVariants.{Offer, Take}
use Rattle.rb_queue.specs.declared.reply.Reply.{Reply}
use Rattle.rb_queue.specs.declared.reply.Reply.TheVariants.{Item, Offered}
use Rattle.rb_retry.specs.Made.{Made}
use Rattle.rb_retry.specs.Asked.{Makes, MayGet}
use Rattle.rb_retry.specs.DeskRules.{DeskRules}
use Rattle.rb_retry.specs.KeptSteps.{fault_of}
use Rattle.rb_retry.specs.WorkRuns.{WorkRun, RunEnd, done, failed, EndsRun, RunsAlong, counted, report_after}
use Rattle.rb_retry.specs.declared.desk_fault.DeskFault.{DeskFault}
use Rattle.rb_retry.specs.declared.verdict.Verdict.TheVariants.{Again, Dead}
use Rattle.rb_retry.specs.declared.work_report.WorkReport.{WorkReport}

-- a run behind others is counted last
pub report_after-append : (report : WorkReport) (runs : List WorkRun) (run : WorkRun) → report_after report (runs ++ run ∷ []) ≡ counted (report_after report runs) run.end
report_after-append report [] run = refl
report_after-append report (first ∷ runs) run = report_after-append (counted report first.end) runs run

-- one run is counted once
pub one_more : (report : WorkReport) (end : RunEnd) → (counted report end).runs ≡ report.runs + 1
one_more report done = refl
one_more report (failed (Ok (Again again))) = refl
one_more report (failed (Ok (Dead dead))) = refl
one_more report (failed (Err refused)) = refl

module _ {S : Type 0} (rules : DeskRules S) (may : Element → Bool → Type 0) where
  -- a run behind others
  pub along_more : (old last taken after : S) (runs : List WorkRun) (element : Element) (end : RunEnd) → RunsAlong rules may old runs last
      → rules.Steps last 0 Take (Ok (Item element)) taken → EndsRun rules may element taken end after
      → RunsAlong rules may old (runs ++ record { element = element; end = end } ∷ []) after
  along_more old last taken after [] element end along take ends =
      let from : rules.Steps old 0 Take (Ok (Item element)) taken = rw (← along) take in (taken, from, after, ends, refl)
  along_more old last taken after (run ∷ runs) element end (between, took, next, ended, along) take ends =
      (between, took, next, ended, along_more next last taken after runs element end along take ends)

  module _ (mine : S → List Made)
      (makes : (old new : S) (asked : ℕ) (ask : Ask) (reply : Reply) → rules.Steps old asked ask (Ok reply) new → Makes (rules.gives old) asked ask reply (mine old) (mine new))
      (refuses : (old new : S) (asked : ℕ) (ask : Ask) (fault : DeskFault) → rules.Steps old asked ask (Err fault) new → MayGet ask fault × (mine new ≡ mine old)) where
    -- a take makes one event
    pub took_more : (old new : S) (element : Element) → rules.Steps old 0 Take (Ok (Item element)) new → length (mine new) ≡ length (mine old) + 1
    took_more old new element step =
        let made = makes old new 0 Take (Item element) step in
        ap length made.grows ∙ length-append (mine old) _

    -- the end of a run takes no event back
    pub ended_more : (element : Element) (old : S) (end : RunEnd) (new : S) → EndsRun rules may element old end new → length (mine old) ≤ length (mine new)
    ended_more element old done new (said, same) = omega (arith, ap (λ s. length (mine s)) same)
    ended_more element old (failed (Ok (Again again))) new (said, now, given, (draft, retry, step)) =
        let made = makes old new now (Offer draft) (Offered again) step in
        omega (arith, ap length made.grows, length-append (mine old) (record { event = made.event; reply = Some (Offered again) } ∷ []))
    ended_more element old (failed (Ok (Dead dead))) new (said, now, given, (none, is, same)) = omega (arith, ap (λ s. length (mine s)) same)
    ended_more element old (failed (Err refused)) new (said, now, given, (draft, retry, step, back)) =
        omega (arith, ap length (refuses old new now (Offer draft) (fault_of refused.1) step).1)
