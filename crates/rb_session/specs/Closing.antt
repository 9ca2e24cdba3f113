-- What becomes of the jobs that a session still holds when it ends.
use Rattle.std.specs.Prelude.{◌≡◌, ℕ, ◌+◌, List, [], ◌∷◌, Result, Ok, Err}
use Rattle.rb_delayed.specs.declared.element.Element.{Element}
use Rattle.rb_kept.specs.declared.fault.CallFault.{CallFault}
use Rattle.rb_retry.specs.DeskRules.{DeskRules}
use Rattle.rb_retry.specs.Jobs.{FailsTo}
use Rattle.rb_retry.specs.declared.verdict.Verdict.{Verdict}

-- a job is lost if its next attempt was refused
abbrev pub lost_by : Result Verdict (Element × CallFault) → ℕ
lost_by (Ok verdict) = 0
lost_by (Err refused) = 1

module _ {S : Type 0} (rules : DeskRules S) where
  -- Each of these jobs fails, in this order, at the desk's moment, and this many are lost.
  abbrev pub Closes : S → List Element → ℕ → S → Type 0
  Closes old [] lost new = (lost ≡ 0) × (new ≡ old)
  Closes old (element ∷ held) lost new =
      (now : ℕ) × rules.gives old now
      × (result : Result Verdict (Element × CallFault)) × (between : S)
      × FailsTo rules element now old result between
      × (more : ℕ) × Closes between held more new × (lost ≡ lost_by result + more)
