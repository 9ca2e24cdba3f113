-- Which answers a timer of a given room may give to a list of commands, and what it contains after them.
use Rattle.std.specs.Prelude.{◌≡◌, ℕ, ◌<◌, List, [], ◌∷◌, Some, None}
use Rattle.std.specs.FinMap as map
use Rattle.rb_timer.specs.Content.{Content, IsLeastEntry, IsDueEntry}
use Rattle.rb_timer.specs.declared.command.TimerCommand.{TimerCommand}
use Rattle.rb_timer.specs.declared.command.TimerCommand.TheVariants.{Insert, Remove, Least, Due, Clear}
use Rattle.rb_timer.specs.declared.command.TimerAnswer.{TimerAnswer}
use Rattle.rb_timer.specs.declared.command.TimerAnswer.TheVariants.{Inserted, Removed, Entry, Cleared, Refused}

-- the condition of an insert: the slot is below the room, and has no entry
abbrev pub CanInsert : ℕ → Content → ℕ → Type 0
CanInsert room content slot = (slot < room) × (map.get content slot ≡ None)

-- From `old` a timer with this room may give the answer to the command, and then contains `new`.
abbrev pub Step : ℕ → Content → TimerCommand → TimerAnswer → Content → Type 0
Step room old (Insert slot expiry) Inserted new =
    CanInsert room old slot × (new ≡ map.insert old slot expiry)
Step room old (Remove slot) (Removed expiry) new =
    (map.get old slot ≡ Some expiry) × (new ≡ map.remove old slot)
Step room old Least (Entry entry) new = IsLeastEntry old entry × (new ≡ old)
Step room old (Due now) (Entry entry) new = IsDueEntry old now entry × (new ≡ old)
Step room old Clear Cleared new = new ≡ map.empty
-- if the condition fails, nothing changes
Step room old (Insert slot expiry) Refused new = ¬ CanInsert room old slot × (new ≡ old)
Step room old (Remove slot) Refused new = (map.get old slot ≡ None) × (new ≡ old)
-- no other answer is given
Step room old _ _ new = ⊥

-- the first step leads to some content, from which the rest goes on
pub record StepsOn (step rest : Content → Type 0) : Type 0 where
  pub between : Content
  pub first : step between
  pub others : rest between

-- the answers to the commands, one step after the other, from `old` to `new`
abbrev pub Run : ℕ → Content → List TimerCommand → List TimerAnswer → Content → Type 0
Run room old [] [] new = new ≡ old
Run room old (command ∷ commands) (answer ∷ answers) new =
    StepsOn (λ between. Step room old command answer between) (λ between. Run room between commands answers new)
Run room old _ _ new = ⊥
