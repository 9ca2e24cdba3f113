-- The rule of the lock: what holds of the word, of the pair at home and of all views, between any two steps.
use Rattle.std.specs.Prelude.{◌≡◌, ℕ, ◌+◌, ◌<◌, ◌≤◌, ◌⊎◌, Bool, true, false, [], ◌∷◌, Option, Some}
use mathlib.Core.Option.{none, some}
use mathlib.Core.List.{IsPrefix}
use lib.ListN.{get_elem?}
use Rattle.atomic_table.specs.Table.{State}
use Rattle.rb_queue.specs.Counts.{events_of}
use Rattle.rb_kept.specs.Log.{Log}
use Rattle.rb_lock.specs.Parts.{all_parts, least_part}
use Rattle.rb_lock.specs.Records.{AreRecords}
use Rattle.rb_lock.specs.Views.{records_of, weight, drawn_part, holders, total}
use Rattle.rb_lock.specs.declared.pair.Pair.{Pair}
use Rattle.rb_lock.specs.declared.pair.TheConstants.{MOST_NAMES}
use Rattle.rb_lock.specs.declared.stage.Stage.{Stage}
use Rattle.rb_lock.specs.declared.stage.Stage.TheVariants.{Idle, Holds, Drew, Meets, Gone}
use Rattle.rb_lock.specs.declared.view.View.{View}

-- what a seat knows, given what it is about to do
abbrev pub AtStage : Log → ℕ → ℕ → Stage → Type 0
AtStage log names noted Idle = Unit {0}
AtStage log names noted (Holds found) = (found ≡ log.history) × (noted ≡ names)
AtStage log names noted (Drew name) = (name < names) × (events_of log.history name ≡ [])
AtStage log names noted (Meets one other room start) =
    IsPrefix one log.history × IsPrefix other log.history × (room ≡ log.capacity) × (start ≡ log.opening)
AtStage log names noted Gone = Unit {0}

-- the seat is not spent
abbrev pub IsThere : Stage → Type 0
IsThere Idle = Unit {0}
IsThere (Holds found) = Unit {0}
IsThere (Drew name) = Unit {0}
IsThere (Meets one other room start) = Unit {0}
IsThere Gone = ⊥

-- A view of a pass has at least the part that is left once so many names are given, beside that of a name that it
-- has drawn; another view has no name.
abbrev pub HasPart : Bool → ℕ → View → Type 0
HasPart true names v = least_part names + drawn_part v.stage ≤ v.parts
HasPart false names v = (name : ℕ) → weight name v ≡ 0

-- A view fits the current log and the number of names: one that is not spent has this run's capacity and
-- opening, the history begins with what it has seen, all its records are of this history, it has noted no
-- more names than are given, and has a part.
pub record Fits (log : Log) (names : ℕ) (v : View) : Type 0 where
  pub capacity : IsThere v.stage → v.capacity ≡ log.capacity
  pub opening : IsThere v.stage → v.opening ≡ log.opening
  pub begins : IsPrefix v.seen log.history
  pub records : AreRecords log.history (records_of v)
  pub noted : v.noted ≤ names
  pub stage : AtStage log names v.noted v.stage
  pub part : HasPart v.live names v

module _ {T : Type 0} where
  abbrev pub pair_of : Log → ℕ → Pair T
  pair_of log names = record { kept = log; names = names }

  -- the lock is free: the pair is at home, and no seat holds
  pub record IsFree (log : Log) (names : ℕ) (s : State (Option (Pair T)) View) : Type 0 where
    pub words : s.words ≡ 0 ∷ []
    pub homes : s.homes ≡ some (Some (pair_of log names)) ∷ []
    pub nobody : total holders s.views ≡ 0

  -- the lock is held: one seat has the slot in its hand
  pub record IsHeld (s : State (Option (Pair T)) View) : Type 0 where
    pub word : ℕ
    pub words : s.words ≡ word ∷ []
    pub taken : 0 < word
    pub homes : s.homes ≡ none ∷ []
    pub one : total holders s.views ≡ 1

  -- The current log and the number of names are those of the pair at home or, while a seat holds, what that
  -- seat noted. Each view fits them. Among all records and drawn names, each given name occurs once and no other
  -- does; each event's seat was given. The parts of all views are the whole.
  pub record Locked (s : State (Option (Pair T)) View) : Type 0 where
    pub log : Log
    pub names : ℕ
    pub few : names ≤ MOST_NAMES
    pub place : IsFree log names s ⊎ IsHeld s
    pub fits : (by : ℕ) (v : View) → get_elem? s.views by ≡ some v → Fits log names v
    pub once : (name : ℕ) → total (weight name) s.views ≤ 1
    pub all : (name : ℕ) → name < names → 1 ≤ total (weight name) s.views
    pub below : (name : ℕ) → names ≤ name → total (weight name) s.views ≡ 0
    pub not_given : (name : ℕ) → names ≤ name → events_of log.history name ≡ []
    pub whole : total (λ v. v.parts) s.views ≡ all_parts
