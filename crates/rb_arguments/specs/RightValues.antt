-- Which values of a subcommand are right: each is there and in the range of its option, or is the default.
use Rattle.std.specs.Prelude.{◌≡◌, ◌⊎◌, ℕ, ◌≤◌, ◌==◌, false, List, length, IfSome, IsSome, MatchBool, Some, codes}
use Rattle.std.specs.List.{list_any}
use Rattle.clap.specs.Walk.{has_row}
use Rattle.clap.specs.Words.{Row, Text, first_of, one_of}
use Rattle.rb_delayed.specs.declared.element.TheConstants.{GREATEST_ATTEMPT}
use Rattle.rb_delayed.specs.declared.moment.TheConstants.{GREATEST_MOMENT}
use Rattle.rb_kept.specs.declared.kept.TheConstants.{MOST_CALLS}
use Rattle.rb_arguments.specs.CommandLine.{HasNumberWithin, HasPace}
use Rattle.rb_options.specs.TimerKind.{timer_name}
use Rattle.rb_options.specs.declared.server_run_options.TheConstants.{MOST_WORKERS}
use Rattle.rb_options.specs.declared.serve_options.TheConstants.{GREATEST_PORT, GREATEST_SOCKET, LEAST_SOCKET, MOST_GREETING}
use Rattle.rb_options.specs.declared.serve_options.TheConstants.{MOST_SESSIONS, MOST_TURNS}
use Rattle.rb_options.specs.declared.timer_kind.TimerKind.{TimerKind}

-- a timer is named
abbrev pub NamesTimer : List Row → Type 0
NamesTimer rows = (kind : TimerKind) × (first_of (codes "timer") rows ≡ Some (timer_name kind))

-- the values are those of a policy
pub record HasPolicy (rows : List Row) : Type 0 where
  pub attempts : HasNumberWithin 1 GREATEST_ATTEMPT (one_of (codes "attempts") rows)
  pub pace : HasPace rows

-- the values of `script` are right
pub record AreScriptValues (rows : List Row) : Type 0 where
  pub timer : NamesTimer rows
  pub calls : HasNumberWithin 1 MOST_CALLS (one_of (codes "calls") rows)
  pub policy : HasPolicy rows

-- the values of `replay` are right
pub record AreReplayValues (rows : List Row) : Type 0 where
  pub file : IsSome (first_of (codes "file") rows)
  pub policy : HasPolicy rows

-- the values of a server's run are right
pub record AreServerRunValues (rows : List Row) : Type 0 where
  pub workers : HasNumberWithin 1 MOST_WORKERS (one_of (codes "workers") rows)
  pub calls : HasNumberWithin 1 MOST_CALLS (one_of (codes "calls") rows)
  pub policy : HasPolicy rows

-- an option that may be left out is left out, or its value is a number in this range
abbrev pub MayHaveNumberWithin : ℕ → ℕ → Text → List Row → Type 0
MayHaveNumberWithin least most id rows =
    MatchBool (has_row id rows) (HasNumberWithin least most (one_of id rows)) (Unit {0})

-- a client can be greeted by this text: one line, which is no longer than a client's may be
pub record IsGreeting (text : Text) : Type 0 where
  pub some : 1 ≤ length text
  pub short : length text ≤ MOST_GREETING
  pub one_line : list_any (λ byte. byte == 10) text ≡ false

-- The values of `serve` are right. The range of a number does not depend on any other number.
pub record AreServerValues (rows : List Row) : Type 0 where
  pub port : HasNumberWithin 1 GREATEST_PORT (one_of (codes "port") rows)
  pub timer : NamesTimer rows
  pub sessions : HasNumberWithin 1 MOST_SESSIONS (one_of (codes "sessions") rows)
  pub turns : HasNumberWithin 0 MOST_TURNS (one_of (codes "turns") rows)
  pub socket : MayHaveNumberWithin LEAST_SOCKET GREATEST_SOCKET (codes "socket") rows
  pub silent : MayHaveNumberWithin 1 GREATEST_MOMENT (codes "silent") rows
  pub since : MayHaveNumberWithin 0 GREATEST_MOMENT (codes "since") rows
  pub greeting : IfSome (first_of (codes "greeting") rows) IsGreeting
  pub run : AreServerRunValues rows

-- the name is a subcommand's, whose values are right
abbrev pub AreRightFor : Text → List Row → Type 0
AreRightFor name rows =
    ((name ≡ codes "script") × AreScriptValues rows)
    ⊎ (((name ≡ codes "replay") × AreReplayValues rows) ⊎ ((name ≡ codes "serve") × AreServerValues rows))
