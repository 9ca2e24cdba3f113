-- Why a server over TCP ends what it could go on with.
use Rattle.std.specs.Prelude.{◌≡◌, ◌≤◌, ◌+◌, ℕ, Option, Some, None}
use Rattle.std.specs.Borrow.{Bor}
use Rattle.rb_serving.specs.declared.ending.Ending.{Ending}
use Rattle.rb_serving.specs.declared.tcp_door.NoMore.{NoMore}
use Rattle.rb_serving.specs.declared.tcp_door.NoMore.TheVariants as more
use Rattle.rb_serving.specs.declared.tcp_gate.WaitEnd.{WaitEnd}
use Rattle.rb_serving.specs.declared.tcp_gate.WaitEnd.TheVariants as waits

-- a token of this lock shows that the server is to drain
abbrev pub ShowsDrain : Option (Bor Ending) → ℕ → Type 0
ShowsDrain None lock = ⊥
ShowsDrain (Some ending) lock = lock ≡ ending.now.drain.id

-- A door was asked this often before, and has no more visits: its sessions are used up, or the server is to drain.
abbrev pub IsNoMore : ℕ → Option (Bor Ending) → ℕ → NoMore → Type 0
IsNoMore sessions ending asked more.UsedUp = sessions ≤ asked
IsNoMore sessions ending asked (more.Drains token) = ShowsDrain ending token.of

-- A wait ends after this many turns: they are as many as it may make, the server is to drain, or the gate, which was
-- told to look, has seen that the client sent something or hung up.
abbrev pub IsWaitEnd : ℕ → Option (Bor Ending) → Type 0 → ℕ → WaitEnd → Type 0
IsWaitEnd limit ending looks turns waits.TurnsOver = limit ≤ turns
IsWaitEnd limit ending looks turns (waits.Drains token) = ShowsDrain ending token.of
IsWaitEnd limit ending looks turns waits.ClientActs = looks

-- What began at this moment had lasted for so long at another, which the clock gave.
pub record HasLasted (gives : ℕ → Type 0) (begun nanoseconds : ℕ) : Type 0 where
  pub now : ℕ
  pub read : gives now
  pub long : begun + nanoseconds ≤ now
