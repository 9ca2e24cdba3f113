-- How the first expiries that a text leaves out are found. No public clause cites this module.
use Rattle.std.specs.Prelude.{◌≡◌, ℕ, List, [], ◌∷◌, ◌++◌, length, map, Some}
use Rattle.std.specs.Ordering.{nat_cmp}
use Rattle.std.specs.BTreeMap as tree
use Rattle.rb_delayed.specs.declared.element.Element.{Element}
use Rattle.rb_queue.specs.Effect.{effect_of, inserted}
use Rattle.rb_queue.specs.Opening.{ids_of}
use Rattle.rb_queue.specs.declared.event.Event.{Event}
use Rattle.rb_history.specs.EventText.{keep_words, event_words}
use Rattle.rb_history.specs.Firsts.{earliest, HaveEarliest, FirstsFollow}
use Rattle.rb_history.specs.HistoryText.{opening_lines}
use Rattle.rb_history.specs.Offers.{offers_in}
use Rattle.rb_history.specs.Ranges.{IsWord, IsRightEvent, IsRightHistory, AreRightElements, AreRightEvents}
use Rattle.rb_history.specs.declared.firsts.Firsts.{Firsts}
use Rattle.rb_history.specs.declared.history.History.{History}
use Rattle.rb_history.specs.declared.version.Version.{Version}
use Rattle.rb_history.specs.declared.version.Version.TheVariants.{One}

-- the expiry of the earliest of these elements is known for each origin
pub record KnowsFirsts (firsts : Firsts) (elements : List Element) : Type 0 where
  pub each : (origin : ℕ) → tree.get nat_cmp firsts.expiries origin ≡ earliest elements origin

-- The element is known besides those before it, and the earliest with its origin has this expiry.
pub record IsFirst (old : Firsts) (element : Element) (new : Firsts) (first : ℕ) : Type 0 where
  pub small : IsWord first
  pub knows : (known : List Element) → KnowsFirsts old known → KnowsFirsts new (known ++ element ∷ [])
  pub is_first : (known : List Element) → KnowsFirsts old known
      → earliest (known ++ element ∷ []) element.origin ≡ Some first

-- the elements are the same except for their first expiries, which are those of the earliest
pub record SettlesElements (old : List Element) (after : Firsts) (new : List Element) : Type 0 where
  pub words : map (keep_words One) new ≡ map (keep_words One) old
  pub ids : ids_of new ≡ ids_of old
  pub right : AreRightElements old → AreRightElements new
  pub knows : KnowsFirsts after new
  pub firsts : HaveEarliest new

-- the event is the same except for the first expiry of what it offered
pub record SettlesEvent (before : Firsts) (old : Event) (after : Firsts) (new : Event) : Type 0 where
  pub words : event_words One new ≡ event_words One old
  pub right : IsRightEvent old → IsRightEvent new
  pub knows : (known : List Element) → KnowsFirsts before known
      → KnowsFirsts after (known ++ inserted (effect_of new.act))
  pub firsts : (known : List Element) → KnowsFirsts before known → HaveEarliest known
      → HaveEarliest (known ++ inserted (effect_of new.act))

-- the same of each event
pub record SettlesEvents (before : Firsts) (old : List Event) (after : Firsts) (new : List Event) : Type 0 where
  pub words : map (event_words One) new ≡ map (event_words One) old
  pub right : AreRightEvents old → AreRightEvents new
  pub knows : (known : List Element) → KnowsFirsts before known → KnowsFirsts after (known ++ offers_in new)
  pub firsts : (known : List Element) → KnowsFirsts before known → HaveEarliest known
      → HaveEarliest (known ++ offers_in new)

-- the history is the same except for the first expiries, each of which is that of the earliest
pub record HasFirsts (told : History) (history : History) : Type 0 where
  pub elements : map (keep_words One) history.opening.elements ≡ map (keep_words One) told.opening.elements
  pub next_id : history.opening.next_id ≡ told.opening.next_id
  pub last_at : history.opening.last_at ≡ told.opening.last_at
  pub events : map (event_words One) history.events ≡ map (event_words One) told.events
  pub right : IsRightHistory history
  pub firsts : HaveEarliest (history.opening.elements ++ offers_in history.events)

-- the history has the same lines in the version, and the first expiries that follow from them
pub record IsSettled (version : Version) (told : History) (history : History) : Type 0 where
  pub opening : opening_lines version history.opening ≡ opening_lines version told.opening
  pub events : map (event_words version) history.events ≡ map (event_words version) told.events
  pub next_id : history.opening.next_id ≡ told.opening.next_id
  pub last_at : history.opening.last_at ≡ told.opening.last_at
  pub elements : length history.opening.elements ≡ length told.opening.elements
  pub right : IsRightHistory history
  pub firsts : FirstsFollow version history.opening.elements history.events
