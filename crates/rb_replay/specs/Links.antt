-- When an offered element is linked to what came before: it begins a job, or it is what the policy
-- offers after the attempt before.
use Rattle.std.specs.Prelude.{◌≡◌, ℕ, ◌-◌, ◌≤◌, ◌==◌, ◌&&◌, Bool, IsTrue, IsSomeAnd, List, Option}
use Rattle.std.specs.List.{find, list_any}
use Rattle.rb_delayed.specs.declared.element.Element.{Element}
use Rattle.rb_retry.specs.Retry.{next_expiry}
use Rattle.rb_retry.specs.declared.policy.Policy.{Policy}

-- what came before an offer
pub record Past : Type 0 where
  -- the elements that were there at the start, and those that were offered
  pub offers : List Element
  -- the elements that were given out, in order
  pub given : List Element

-- whether the element is this attempt of the job that began with this id
abbrev pub is_attempt : ℕ → ℕ → Element → Bool
is_attempt origin attempt element = element.origin == origin && element.attempt == attempt

-- of the elements that are the attempt before of the same job, the one that was given first
abbrev pub parent_in : Past → Element → Option Element
parent_in past element = find (is_attempt element.origin (element.attempt - 1)) past.given

-- the same attempt of the same job came in before
abbrev pub CameBefore : Past → Element → Type 0
CameBefore past element = IsTrue (list_any (is_attempt element.origin element.attempt) past.offers)

-- the element begins a job
pub record Begins (element : Element) : Type 0 where
  pub origin : element.origin ≡ element.id
  pub first : element.first ≡ element.expiry

-- the element is what the policy offers if its parent failed at this moment
pub record Follows (policy : Policy) (asked : ℕ) (element parent : Element) : Type 0 where
  pub payload : element.payload ≡ parent.payload
  pub first : element.first ≡ parent.first
  pub expiry : element.expiry ≡ next_expiry policy.pace parent asked

-- the element continues a job: it follows its parent, and is the first to do so
pub record GoesOn (policy : Policy) (past : Past) (asked : ℕ) (element : Element) : Type 0 where
  pub attempts : element.attempt ≤ policy.attempts
  pub parent : IsSomeAnd (parent_in past element) (Follows policy asked element)
  pub once : ¬ CameBefore past element

-- the element, offered at this moment, is linked to what came before
pub record IsLinked (policy : Policy) (past : Past) (asked : ℕ) (element : Element) : Type 0 where
  pub begins : element.attempt ≡ 1 → Begins element
  pub goes_on : 2 ≤ element.attempt → GoesOn policy past asked element
