-- What each call may do, with a given queue at a given moment.
use Rattle.std.specs.Prelude.{◌≡◌, ℕ, ◌+◌, ◌<◌, ◌≤◌, ◌↔◌, min, IsTrue, IsSome, List, [], ◌∷◌}
use Rattle.std.specs.Prelude.{length, Option, Some, None, MatchOption, IsSomeAnd, option_map}
use Rattle.std.specs.FinMap as map
use Rattle.rb_delayed.specs.declared.element.Element.{Element}
use Rattle.rb_delayed.specs.declared.moment.TheConstants.{GREATEST_MOMENT}
use Rattle.rb_queue.specs.Bag.{Bag, NoneExpired, without}
use Rattle.rb_queue.specs.Head.{IsLeast, IsHeadId}
use Rattle.rb_queue.specs.Queue.{Queue}
use Rattle.rb_queue.specs.Effect.{effect_of, queue_after}
use Rattle.rb_queue.specs.declared.act.Act.{Act}
use Rattle.rb_queue.specs.declared.act.Act.TheVariants.{Offer, Poll, Take, PollFor, Peek, Remove, Drain, Clear, Size}

-- `poll` takes the head, or gives nothing if no element is expired
abbrev pub Polls : Bag → ℕ → Option ℕ → Type 0
Polls bag now given = MatchOption given (NoneExpired bag now) (IsHeadId bag now)

-- the moment until which a timed poll waits
abbrev pub deadline_of : ℕ → ℕ → ℕ
deadline_of start timeout = min (start + timeout) GREATEST_MOMENT

-- a timed poll takes the head, or gives nothing at its deadline if no element is expired
abbrev pub PollsFor : Bag → ℕ → ℕ → Option ℕ → Type 0
PollsFor bag now deadline None = NoneExpired bag now × (deadline ≤ now)
PollsFor bag now deadline (Some id) = IsHeadId bag now id

-- `peek` shows a least element, expired or not, and nothing if there is none
abbrev pub Peeks : Bag → Option ℕ → Type 0
Peeks bag shown =
    MatchOption shown (bag ≡ map.empty) (λ id. IsSomeAnd (map.get bag id) (IsLeast bag))

-- each of the ids is that of a head, once those before it have left
abbrev pub AreHeads : Bag → ℕ → List ℕ → Type 0
AreHeads bag now [] = Unit {0}
AreHeads bag now (id ∷ ids) = IsHeadId bag now id × AreHeads (map.remove bag id) now ids

-- `drain` takes heads one after the other, at most `max`, and all that are expired if it takes fewer
pub record Drains (bag : Bag) (now max : ℕ) (ids : List ℕ) : Type 0 where
  pub heads : AreHeads bag now ids
  pub at_most : length ids ≤ max
  pub all : length ids < max → NoneExpired (without bag ids) now

-- a call at this moment may do the act
abbrev pub Permits : Queue → ℕ → Act → Type 0
Permits queue now (Offer element) = element.id ≡ queue.next_id
Permits queue now (Poll given) = Polls queue.bag now given
Permits queue now (Take id) = IsHeadId queue.bag now id
Permits queue now (PollFor start timeout given) =
    PollsFor queue.bag now (deadline_of start timeout) given
Permits queue now (Peek shown) = Peeks queue.bag shown
Permits queue now (Remove id found) = IsTrue found ↔ IsSome (map.get queue.bag id)
Permits queue now (Drain max ids) = Drains queue.bag now max ids
Permits queue now Clear = Unit {0}
Permits queue now (Size count) = count ≡ map.len queue.bag

-- a call at this moment does the act, and leads from the old queue to the new one
pub record Acts (old : Queue) (now : ℕ) (act : Act) (new : Queue) : Type 0 where
  pub permitted : Permits old now act
  pub after : new ≡ queue_after old (effect_of act)

-- the id of the element that a call gave, if it gave one
abbrev pub id_of : Option Element → Option ℕ
id_of given = option_map (λ element. element.id) given
