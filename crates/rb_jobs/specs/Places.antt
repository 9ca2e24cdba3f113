-- Where the elements of a job are: in the queue, or in the hands of a seat.
use Rattle.std.specs.Prelude.{◌≡◌, ℕ, ◌<◌, List, ◌++◌, Some}
use Rattle.std.specs.FinMap as map
use Rattle.rb_delayed.specs.declared.element.Element.{Element}
use Rattle.rb_queue.specs.History.{IsLegal, start_of, state_of}
use Rattle.rb_queue.specs.Queue.{Queue}
use Rattle.rb_queue.specs.declared.event.Event.{Event}
use Rattle.rb_queue.specs.declared.opening.Opening.{Opening}
use Rattle.rb_retry.specs.declared.policy.Policy.{Policy}
use Rattle.rb_replay.specs.Chaining.{IsChained}
use Rattle.rb_jobs.specs.Among.{IsAmong}
use Rattle.rb_jobs.specs.Attempts.{HaveOneLatest, came_in}
use Rattle.rb_jobs.specs.Hands.{AreHands}

-- where an element may be
pub data Place : Type 0 where
  -- it waits in the queue
  waits : Place
  -- the seat of this name holds it
  held_by : ℕ → Place

-- the element is at this place, if this is the queue and these are the hands
abbrev pub IsAt : Queue → (ℕ → List Element) → Place → Element → Type 0
IsAt queue hands waits element = map.get queue.bag element.id ≡ Some element
IsAt queue hands (held_by seat) element = IsAmong element (hands seat)

-- Each job is in one place: two elements of one origin, wherever they are, are one element, and in the same place.
abbrev pub AreInOnePlace : Queue → (ℕ → List Element) → Type 0
AreInOnePlace queue hands =
    (one other : Element) (here there : Place) → IsAt queue hands here one → IsAt queue hands there other
    → one.origin ≡ other.origin → (one ≡ other) × (here ≡ there)

-- What a run may begin with: each job has one element, and is of an id that was given out.
pub record AreJobs (queue : Queue) : Type 0 where
  pub one_each : (one other : Element) → map.get queue.bag one.id ≡ Some one → map.get queue.bag other.id ≡ Some other
      → one.origin ≡ other.origin → one ≡ other
  pub given_out : (element : Element) → map.get queue.bag element.id ≡ Some element → element.origin < queue.next_id

-- What is true of jobs in a history: each offer begins a job or is the next attempt that the policy gives one; at each
-- moment no job is in two places, whatever the seats may hold then; each job has one latest attempt; and what is left is
-- such a beginning again.
pub record KeepsJobs (policy : Policy) (opening : Opening) (history : List Event) : Type 0 where
  pub chained : IsChained policy opening history
  pub placed : (front behind : List Event) → history ≡ front ++ behind → (hands : ℕ → List Element)
      → AreHands policy opening front hands → AreInOnePlace (state_of opening front).queue hands
  pub latest : HaveOneLatest (came_in opening history)
  pub left : AreJobs (state_of opening history).queue

-- The law of jobs: a legal history keeps them if it begins with jobs of one element each, and if each seat holds what it
-- was given until that ends.
abbrev pub JobsAreKept : Type 0
JobsAreKept =
    (policy : Policy) (opening : Opening) (history : List Event) (hands : ℕ → List Element)
    → AreJobs (start_of opening).queue → IsLegal opening history → AreHands policy opening history hands
    → KeepsJobs policy opening history
