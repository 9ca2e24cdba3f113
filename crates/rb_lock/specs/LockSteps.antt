-- What each step of the lock tells the seat that makes it.
use Rattle.std.specs.Prelude.{◌≡◌, ◌≢◌, ℕ, ◌+◌, ◌<◌, ◌≤◌, ◌⊎◌, length, List, [], ◌∷◌, ◌++◌, Option, Some, None, Result}
use mathlib.Core.List.{IsPrefix}
use Rattle.atomic_table.specs.Table.{Me, Step, rest}
use Rattle.atomic_table.specs.Seated.{TableId}
use Rattle.rb_ledger.specs.declared.totals.Totals.{Totals}
use Rattle.rb_queue.specs.History.{IsLegal}
use Rattle.rb_queue.specs.Counts.{events_of}
use Rattle.rb_queue.specs.declared.event.Event.{Event}
use Rattle.rb_queue.specs.declared.opening.Opening.{Opening}
use Rattle.rb_kept.specs.Log.{Log}
use Rattle.rb_kept.specs.Tries.{StepsTo}
use Rattle.rb_kept.specs.Shares.{Grows}
use Rattle.rb_kept.specs.declared.tries.Try.{Try}
use Rattle.rb_kept.specs.declared.outcome.Outcome.{Outcome}
use Rattle.rb_kept.specs.declared.fault.CallFault.{CallFault}
use Rattle.rb_lock.specs.Parts.{all_parts}
use Rattle.rb_lock.specs.Passes.{PassState, IsSoundPass, tally_of}
use Rattle.rb_lock.specs.Views.{weight, idle, pass_of, holder_of, caught_up, has_drawn, rested, note_of, longer}
use Rattle.rb_lock.specs.Rule.{Fits, pair_of}
use Rattle.rb_lock.specs.declared.pair.Pair.{Pair}
use Rattle.rb_lock.specs.declared.pair.TheConstants.{MOST_NAMES}
use Rattle.rb_lock.specs.declared.stage.Stage.{Stage}
use Rattle.rb_lock.specs.declared.stage.Stage.TheVariants.{Idle, Holds, Drew, Meets, Gone}
use Rattle.rb_lock.specs.declared.view.View.{View}

-- what the rule says of one view
pub record Noted (log : Log) (names : ℕ) (v : View) : Type 0 where
  pub fits : Fits log names v
  pub few : names ≤ MOST_NAMES
  pub once : (name : ℕ) → weight name v ≤ 1
  pub below : (name : ℕ) → names ≤ name → weight name v ≡ 0
  pub not_given : (name : ℕ) → names ≤ name → events_of log.history name ≡ []
  -- a view that has all parts has all names
  pub whole : v.parts ≡ all_parts → (name : ℕ) → name < names → 1 ≤ weight name v

-- the history has grown by events of this name alone
pub record Grown (name : ℕ) (found new : List Event) : Type 0 where
  pub more : List Event
  pub is : new ≡ found ++ more
  pub own : events_of more name ≡ more
  pub others : (other : ℕ) → other ≢ name → events_of more other ≡ []

-- A seat has compared two lists: both begin what it has now seen, which is one of them. Its own events stay,
-- and the other's run had its own capacity and opening.
pub record HasCompared (one other : List Event) (room : ℕ) (start : Opening) (v : View) : Type 0 where
  pub first : IsPrefix one v.seen
  pub second : IsPrefix other v.seen
  pub which : (v.seen ≡ one) ⊎ (v.seen ≡ other)
  pub own : events_of v.seen v.name ≡ v.mine
  pub capacity : room ≡ v.capacity
  pub opening : start ≡ v.opening

-- what a seat has compared, given what it was about to do
abbrev pub Compared : View → Stage → Type 0
Compared v (Meets one other room start) = HasCompared one other room start v
Compared v Idle = Unit {0}
Compared v (Holds found) = Unit {0}
Compared v (Drew name) = Unit {0}
Compared v Gone = Unit {0}

-- the table has one word and one slot
pub record HasOneWord (table : TableId) : Type 0 where
  pub words : table.words ≡ 1
  pub slots : table.slots ≡ 1

-- a seat's view, and the slots that are out with it
abbrev pub LockSeat : Type 0 → Type 0
LockSeat T = Me (Option (Pair T)) View

module _ {T : Type 0} where
  -- the history of the pair in hand
  abbrev pub in_hand : List (ℕ × Option (Pair T)) → List Event
  in_hand [] = []
  in_hand ((slot, None) ∷ slots) = []
  in_hand ((slot, Some pair) ∷ slots) = pair.kept.history

  -- the lock was taken: the pair is in hand, and the seat has noted what it found
  pub record TakesLock (before after : LockSeat T) : Type 0 where
    pub log : Log
    pub names : ℕ
    pub view : after.0 ≡ holder_of before.0 log.history names
    pub hand : after.1 ≡ (0, Some (pair_of log names)) ∷ before.1
    pub found : Noted log names before.0

  -- a try of the lock: it found 0 and took the lock, or it changed nothing
  abbrev pub taken : Step (Option (Pair T)) → LockSeat T → ℕ → LockSeat T → Type 0
  taken step before found after = (found ≡ 0 → TakesLock before after) × (found ≢ 0 → after ≡ before)

  -- the pair went home, and the seat has seen its history
  abbrev pub gave : Step (Option (Pair T)) → LockSeat T → ℕ → LockSeat T → Type 0
  gave step before found after = after ≡ (caught_up before.0 (in_hand before.1) Idle, rest before.1)

  -- the same, and the seat has drawn the next name
  abbrev pub drew : Step (Option (Pair T)) → LockSeat T → ℕ → LockSeat T → Type 0
  drew step before found after = after ≡ (has_drawn before.0 (in_hand before.1), rest before.1)

  -- the word was read, and the seat has learned how the two lists compare
  abbrev pub learned : Step (Option (Pair T)) → LockSeat T → ℕ → LockSeat T → Type 0
  learned step before found after = (after ≡ (rested before.0, before.1)) × Compared (rested before.0) before.0.stage

  -- the seat is that of a pass between its steps
  abbrev pub AtRest : TableId → LockSeat T → Type 0
  AtRest table seat = seat ≡ (idle (pass_of table seat.0), [])

  -- the seat is at rest, and the pass's own number and share are those of its view
  pub record IsPass (table : TableId) (seat : LockSeat T) (name : ℕ) (tally : Totals) : Type 0 where
    pub rest : AtRest table seat
    pub name_is : name ≡ seat.0.name
    pub counted : tally ≡ tally_of (pass_of table seat.0)
    pub sound : IsSoundPass (pass_of table seat.0)

  -- The seat is a note of what a pass had seen: a legal history, no longer than its capacity.
  pub record IsNote (seat : LockSeat T) : Type 0 where
    pub pass : PassState
    pub is : seat ≡ (note_of (idle pass), [])
    pub legal : IsLegal pass.opening pass.seen
    pub few : length pass.seen ≤ pass.capacity

  -- the seat holds the lock, and has in hand the pair that it found, or one that has grown by its events
  pub record MayGive (seat : LockSeat T) : Type 0 where
    pub pass : PassState
    pub found : Log
    pub new : Log
    pub names : ℕ
    pub is : seat ≡ (holder_of (idle pass) found.history names, (0, Some (pair_of new names)) ∷ [])
    pub capacity : new.capacity ≡ pass.capacity
    pub opening : new.opening ≡ pass.opening
    pub grown : Grown pass.name found.history new.history
    pub few : names ≤ MOST_NAMES

  -- the seat holds the lock, and has in hand the pair that it found, with one name more given
  pub record MayDraw (seat : LockSeat T) : Type 0 where
    pub pass : PassState
    pub found : Log
    pub names : ℕ
    pub is : seat ≡ (holder_of (idle pass) found.history names, (0, Some (pair_of found (names + 1))) ∷ [])
    pub capacity : found.capacity ≡ pass.capacity
    pub opening : found.opening ≡ pass.opening
    pub few : names < MOST_NAMES

  -- the next name of the pair in a slot was given, or all are
  abbrev pub GivesName : Pair T → Option ℕ → Pair T → Type 0
  GivesName before None after = (MOST_NAMES ≤ before.names) × (after ≡ before)
  GivesName before (Some name) after =
      (name ≡ before.names) × (before.names < MOST_NAMES) × (after ≡ pair_of before.kept (before.names + 1))

  pub record NamesOn (given : Option ℕ) (old new : Option (Pair T)) : Type 0 where
    pub before : Pair T
    pub after : Pair T
    pub was : old ≡ Some before
    pub is : new ≡ Some after
    pub legal : IsLegal before.kept.opening before.kept.history
    pub fits : length before.kept.history ≤ before.kept.capacity
    pub gives : GivesName before given after

  -- the same in the slot that a seat has in hand
  pub record NamesIn (given : Option ℕ) (old new : LockSeat T) : Type 0 where
    pub slot : Option (Pair T)
    pub slot' : Option (Pair T)
    pub was : old.1 ≡ (0, slot) ∷ []
    pub is : new ≡ (old.0, (0, slot') ∷ [])
    pub names : NamesOn given slot slot'

  -- a seat at rest has seen what another has, beside what it had
  pub record HasLearned (one other : View) (seat : LockSeat T) : Type 0 where
    pub rest : seat ≡ (record one { seen = longer one.seen other.seen }, [])
    pub compared : HasCompared one.seen other.seen other.capacity other.opening
        (record one { seen = longer one.seen other.seen })

  -- the kept queue of the pair in a slot was called
  pub record ActsOn (try : Try) (step : Result Outcome CallFault) (share share' : Totals)
      (old new : Option (Pair T)) : Type 0 where
    pub before : Pair T
    pub after : Pair T
    pub was : old ≡ Some before
    pub is : new ≡ Some after
    pub names : after.names ≡ before.names
    pub legal : IsLegal before.kept.opening before.kept.history
    pub steps : StepsTo before.kept try step after.kept
    pub grows : Grows before.kept after.kept share share'

  -- the same in the slot that a seat has in hand
  pub record ActsIn (try : Try) (step : Result Outcome CallFault) (share share' : Totals)
      (old new : LockSeat T) : Type 0 where
    pub slot : Option (Pair T)
    pub slot' : Option (Pair T)
    pub was : old.1 ≡ (0, slot) ∷ []
    pub is : new ≡ (old.0, (0, slot') ∷ [])
    pub acts : ActsOn try step share share' slot slot'
