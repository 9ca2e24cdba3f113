-- Why an event is not allowed: the first of its tests that fails. The tests of an act together are what
-- permits it.
use Rattle.std.specs.Prelude.{◌≡◌, ℕ, ◌<◌, ◌≤◌, ◌↔◌, max, IsTrue, IsSome}
use Rattle.std.specs.Prelude.{IsSomeAnd, List, [], ◌∷◌, ◌++◌, length, Some, None}
use Rattle.std.specs.FinMap as map
use Rattle.rb_queue.specs.Bag.{Bag, NoneExpired}
use Rattle.rb_queue.specs.Head.{IsLeast, IsHeadId}
use Rattle.rb_queue.specs.Queue.{Queue}
use Rattle.rb_queue.specs.Calls.{deadline_of}
use Rattle.rb_queue.specs.History.{State, state_of, Allows, IsLegal}
use Rattle.rb_queue.specs.declared.act.Act.{Act}
use Rattle.rb_queue.specs.declared.act.Act.TheVariants.{Offer, Poll, Take, PollFor, Peek, Remove, Drain, Clear, Size}
use Rattle.rb_queue.specs.declared.event.Event.{Event}
use Rattle.rb_queue.specs.declared.opening.Opening.{Opening}
pub use Rattle.rb_replay.specs.Tests.{Test, NoTest}
use Rattle.rb_replay.specs.declared.reason.Reason.{Reason}
use Rattle.rb_replay.specs.declared.reason.Reason.TheVariants.{BadMoment, BadId, NotInQueue, NotLeast}
use Rattle.rb_replay.specs.declared.reason.Reason.TheVariants.{NotExpired, NotNone, TooEarly, WrongFound}
use Rattle.rb_replay.specs.declared.reason.Reason.TheVariants.{TooMany, NotAll, WrongSize}

-- the element of the id is in the bag, and it is least
abbrev pub IsLeastId : Bag → ℕ → Type 0
IsLeastId bag id = IsSomeAnd (map.get bag id) (IsLeast bag)

-- the tests of an element that is shown: it is there, and it is least
abbrev pub LeastTests : Bag → ℕ → (Reason → Type 0) → Reason → Type 0
LeastTests bag id others =
    Test (IsSome (map.get bag id)) NotInQueue (Test (IsLeastId bag id) NotLeast others)

-- the tests of an element that is given: it could be shown, and it is expired
abbrev pub HeadTests : Bag → ℕ → ℕ → (Reason → Type 0) → Reason → Type 0
HeadTests bag now id others = LeastTests bag id (Test (IsHeadId bag now id) NotExpired others)

-- the tests of each drained element, and then that all were taken, if they are fewer than were asked for
abbrev pub DrainTests : Bag → ℕ → Type 0 → List ℕ → Reason → Type 0
DrainTests bag now fewer [] = Test (fewer → NoneExpired bag now) NotAll NoTest
DrainTests bag now fewer (id ∷ ids) =
    HeadTests bag now id (DrainTests (map.remove bag id) now fewer ids)

-- the tests of an act, in their order
abbrev pub ActTests : Queue → ℕ → Act → Reason → Type 0
ActTests queue now (Offer element) = Test (element.id ≡ queue.next_id) BadId NoTest
ActTests queue now (Poll None) = Test (NoneExpired queue.bag now) NotNone NoTest
ActTests queue now (Poll (Some id)) = HeadTests queue.bag now id NoTest
ActTests queue now (Take id) = HeadTests queue.bag now id NoTest
ActTests queue now (PollFor start timeout None) =
    Test (NoneExpired queue.bag now) NotNone (Test (deadline_of start timeout ≤ now) TooEarly NoTest)
ActTests queue now (PollFor start timeout (Some id)) = HeadTests queue.bag now id NoTest
ActTests queue now (Peek None) = Test (queue.bag ≡ map.empty) NotNone NoTest
ActTests queue now (Peek (Some id)) = LeastTests queue.bag id NoTest
ActTests queue now (Remove id found) =
    Test (IsTrue found ↔ IsSome (map.get queue.bag id)) WrongFound NoTest
ActTests queue now (Drain max ids) =
    Test (length ids ≤ max) TooMany (DrainTests queue.bag now (length ids < max) ids)
ActTests queue now Clear = NoTest
ActTests queue now (Size count) = Test (count ≡ map.len queue.bag) WrongSize NoTest

-- the tests of an event: its moment, and then its act
abbrev pub EventTests : State → Event → Reason → Type 0
EventTests state event =
    Test (event.at ≡ max event.asked state.moment) BadMoment (ActTests state.queue event.at event.act)

-- The events before it are legal from the opening, and this one is not allowed then, for this reason.
pub record Refuses (opening : Opening) (events : List Event) (index : ℕ) (reason : Reason) : Type 0 where
  pub front : List Event
  pub event : Event
  pub behind : List Event
  pub split : events ≡ front ++ event ∷ behind
  pub placed : length front ≡ index
  pub legal : IsLegal opening front
  pub refused : ¬ Allows (state_of opening front) event
  pub first : EventTests (state_of opening front) event reason
