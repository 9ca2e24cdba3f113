-- What is remembered of passes: their names, what they had seen, and their calls.
use Rattle.std.specs.Prelude.{◌≡◌, ℕ, ◌+◌, ◌≤◌, ◌==◌, Bool, true, false, List, [], ◌∷◌, map}
use Rattle.std.specs.List.{flat_map, AllByRecursion}
use mathlib.Core.List.{IsPrefix}
use Rattle.rb_queue.specs.Counts.{events_of}
use Rattle.rb_queue.specs.declared.event.Event.{Event}
use Rattle.rb_lock.specs.declared.pass_record.PassRecord.{PassRecord}

-- 1 for true, and 0 for false
abbrev pub bit : Bool → ℕ
bit true = 1
bit false = 0

-- how often a number occurs in a list
abbrev pub times_in : ℕ → List ℕ → ℕ
times_in number [] = 0
times_in number (first ∷ numbers) = bit (first == number) + times_in number numbers

-- no number occurs twice
abbrev pub AreDifferent : List ℕ → Type 0
AreDifferent numbers = (number : ℕ) → times_in number numbers ≤ 1

-- the names, in the order of the records
abbrev pub names_of : List PassRecord → List ℕ
names_of records = map (λ one. one.name) records

-- the calls of all of them, one record after the other
abbrev pub calls_of : List PassRecord → List Event
calls_of records = flat_map (λ one. one.mine) records

-- The history begins with what was seen, and has under the name exactly the record's calls, all of which
-- were seen.
pub record IsRecord (history : List Event) (one : PassRecord) : Type 0 where
  pub begins : IsPrefix one.seen history
  pub known : events_of one.seen one.name ≡ one.mine
  pub all : events_of history one.name ≡ one.mine

-- each of them is a record of the history
abbrev pub AreRecords : List Event → List PassRecord → Type 0
AreRecords history records = AllByRecursion (IsRecord history) records
