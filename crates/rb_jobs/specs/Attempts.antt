-- The attempts of a job: each but the last has a next one.
use Rattle.std.specs.Prelude.{◌≡◌, ◌+◌, List, ◌++◌}
use Rattle.rb_delayed.specs.declared.element.Element.{Element}
use Rattle.rb_queue.specs.declared.event.Event.{Event}
use Rattle.rb_queue.specs.declared.opening.Opening.{Opening}
use Rattle.rb_history.specs.Offers.{offers_in}
use Rattle.rb_jobs.specs.Among.{IsAmong}

-- the elements that came in: those that were there at the start, and those that were offered
abbrev pub came_in : Opening → List Event → List Element
came_in opening history = opening.elements ++ offers_in history

-- the next attempt came in too
pub record HasNext (came : List Element) (element : Element) : Type 0 where
  pub next : Element
  pub among : IsAmong next came
  pub origin : next.origin ≡ element.origin
  pub attempt : next.attempt ≡ element.attempt + 1

-- the element is the latest attempt of its job
pub record IsLatestAttempt (came : List Element) (element : Element) : Type 0 where
  pub among : IsAmong element came
  pub unfollowed : ¬ HasNext came element

-- Each job has one latest attempt, so what becomes of latest attempts becomes of jobs.
pub record HaveOneLatest (came : List Element) : Type 0 where
  pub some : (element : Element) → IsAmong element came
      → (latest : Element) × IsLatestAttempt came latest × (latest.origin ≡ element.origin)
  pub one : (one other : Element) → IsLatestAttempt came one → IsLatestAttempt came other → one.origin ≡ other.origin
      → one ≡ other
