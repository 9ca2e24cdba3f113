-- What a failed attempt of a job offers again.
use Rattle.std.specs.Prelude.{◌≡◌, ℕ, ◌+◌, ◌*◌, ◌<◌, ◌≤◌, min, Option, Some, None}
use Rattle.rb_delayed.specs.declared.element.Element.{Element}
use Rattle.rb_delayed.specs.declared.element.TheConstants.{GREATEST_ATTEMPT}
use Rattle.rb_delayed.specs.declared.moment.TheConstants.{GREATEST_MOMENT}
use Rattle.rb_queue.specs.declared.draft.Draft.{Draft}
use Rattle.rb_retry.specs.declared.policy.Pace.{Pace}
use Rattle.rb_retry.specs.declared.policy.Pace.TheVariants.{Delay, Rate}
use Rattle.rb_retry.specs.declared.policy.Policy.{Policy}

-- a job may have this many attempts
abbrev pub AreAttempts : ℕ → Type 0
AreAttempts attempts = (1 ≤ attempts) × (attempts ≤ GREATEST_ATTEMPT)

-- When the next attempt expires: a delay counts from the failure, and a rate from the job's first expiry.
abbrev pub next_expiry : Pace → Element → ℕ → ℕ
next_expiry (Delay delay) element now = min (now + delay) GREATEST_MOMENT
next_expiry (Rate period) element now = min (element.first + element.attempt * period) GREATEST_MOMENT

-- the draft is the next attempt of the element's job
pub record IsNextAttempt (policy : Policy) (element : Element) (now : ℕ) (draft : Draft) : Type 0 where
  pub expiry : draft.expiry ≡ next_expiry policy.pace element now
  pub origin : draft.origin ≡ Some element.origin
  pub first : draft.first ≡ Some element.first
  pub attempt : draft.attempt ≡ element.attempt + 1
  pub payload : draft.payload ≡ element.payload

-- What a failure at this moment offers again: the next attempt, or nothing if this was the last.
abbrev pub IsRetry : Policy → Element → ℕ → Option Draft → Type 0
IsRetry policy element now None = policy.attempts ≤ element.attempt
IsRetry policy element now (Some draft) = (element.attempt < policy.attempts) × IsNextAttempt policy element now draft
