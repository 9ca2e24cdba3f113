-- What a seat may hold, by its events: what it was given, but for what it offered again or let go.
use Rattle.std.specs.Prelude.{◌≡◌, ℕ, ◌+◌, ◌<◌, ◌⊎◌, List, [], ◌∷◌, ◌++◌, remove, slice_get, Option, Some}
use Rattle.rb_delayed.specs.declared.element.Element.{Element}
use Rattle.rb_queue.specs.declared.event.Event.{Event}
use Rattle.rb_queue.specs.declared.opening.Opening.{Opening}
use Rattle.rb_queue.specs.declared.reply.Reply.{Reply}
use Rattle.rb_queue.specs.declared.reply.Reply.TheVariants.{Offered, Item, Drained}
use Rattle.rb_retry.specs.Made.{Made, made_by}
use Rattle.rb_retry.specs.declared.policy.Policy.{Policy}
use Rattle.rb_jobs.specs.RunEvents.{AreSomeOf}
use Rattle.rb_replay.specs.Links.{Begins, Follows}

-- the element is the first of a job
pub record BeginsJob (element : Element) : Type 0 where
  pub attempt : element.attempt ≡ 1
  pub begins : Begins element

-- the element is the next attempt that the policy gives a job whose element failed at this moment
pub record RetriesJob (policy : Policy) (failed : Element) (moment : ℕ) (again : Element) : Type 0 where
  pub fewer : failed.attempt < policy.attempts
  pub origin : again.origin ≡ failed.origin
  pub attempt : again.attempt ≡ failed.attempt + 1
  pub follows : Follows policy moment again failed

-- the elements that a reply hands out
abbrev pub reply_elements : Option Reply → List Element
reply_elements (Some (Item element)) = element ∷ []
reply_elements (Some (Drained elements)) = elements
reply_elements _ = []

module _ (policy : Policy) where
  -- A seat that holds these elements made an event at this moment, and got this reply. What it offered begins a job, or
  -- is the next attempt of one element that it holds, and then no longer holds. What was handed out it holds.
  abbrev pub Handles : List Element → ℕ → Option Reply → List Element → Type 0
  Handles held moment (Some (Offered element)) after =
      (BeginsJob element × (after ≡ held))
      ⊎ ((place : ℕ) × (failed : Element) × (slice_get held place ≡ Some failed)
      × RetriesJob policy failed moment element × (after ≡ remove held place))
  Handles held moment reply after = after ≡ held ++ reply_elements reply

  -- These events, one after the other, lead from what is held to what is held behind them. Before each of them, and at
  -- the end, any elements may have been let go, as those of jobs that were done, dead or lost.
  abbrev pub HandlesAll : List Element → List Made → List Element → Type 0
  HandlesAll held [] after = AreSomeOf after held
  HandlesAll held (made ∷ mades) after =
      (kept : List Element) × AreSomeOf kept held
      × (between : List Element) × Handles kept made.event.asked made.reply between × HandlesAll between mades after

  -- what each seat may hold behind this history, having begun with nothing
  abbrev pub AreHands : Opening → List Event → (ℕ → List Element) → Type 0
  AreHands opening history hands = (seat : ℕ) → HandlesAll [] (made_by seat opening history) (hands seat)
