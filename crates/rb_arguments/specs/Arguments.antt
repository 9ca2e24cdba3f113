-- What the options and arguments of the commands take.
use Rattle.std.specs.Prelude.{◌≡◌, ℕ, true, List, [], ◌∷◌, map, Some, codes}
use Rattle.std.specs.Borrow.{Bor}
use Rattle.clap.specs.Words.{Rule, Text, new_rule}
use Rattle.clap.specs.declared.builder.action.ArgAction.TheVariants.{SetTrue}
use Rattle.clap.specs.declared.builder.value_parser.ValueParser.TheVariants.{Unsigned, Names}
use Rattle.rb_delayed.specs.declared.element.TheConstants.{GREATEST_ATTEMPT}
use Rattle.rb_delayed.specs.declared.moment.TheConstants.{GREATEST_MOMENT}
use Rattle.rb_kept.specs.declared.kept.TheConstants.{MOST_CALLS}
use Rattle.rb_options.specs.declared.serve_options.TheConstants.{GREATEST_PORT, GREATEST_SOCKET, LEAST_SOCKET, MOST_SESSIONS, MOST_TURNS}
use Rattle.rb_options.specs.declared.server_run_options.TheConstants.{MOST_WORKERS}

-- an option that is called `--NAME`
abbrev pub dashed : Text → Rule
dashed name = record (new_rule name) { long = Some name }

-- `--NAME`, which is set or not
abbrev pub flag : Text → Rule
flag name = record (dashed name) { action = Some SetTrue }

-- `--NAME VALUE`, of any value
abbrev pub named_option : Text → Rule
named_option name = record (dashed name) { value_names = 1 }

-- `--NAME N`, of a number in this range
abbrev pub number_option : Text → ℕ → ℕ → Rule
number_option name least most = record (named_option name) { parser = Some (Unsigned least most) }

-- `--NAME N`, of a number in this range, and this number if it is not given
abbrev pub number_option_or : Text → ℕ → ℕ → Text → Rule
number_option_or name least most default = record (number_option name least most) { defaults = default ∷ [] }

-- `--calls N`: from 1 to 1,000,000, and 10,000 if it is not given
abbrev pub calls_option : Rule
calls_option = number_option_or (codes "calls") 1 MOST_CALLS (codes "10000")

-- `--timer T`: one of the names, and `heap` if it is not given
abbrev pub timer_option : Bor (List (Bor Text)) → Rule
timer_option names = record (named_option (codes "timer")) {
  defaults = codes "heap" ∷ [];
  parser = Some (Names names);
}

-- `--delay N`: from 0 to 2^64 - 1 nanoseconds, and 1,000 if it is not given
abbrev pub delay_option : Rule
delay_option = number_option_or (codes "delay") 0 GREATEST_MOMENT (codes "1000")

-- `--rate N`: from 0 to 2^64 - 1 nanoseconds
abbrev pub rate_option : Rule
rate_option = number_option (codes "rate") 0 GREATEST_MOMENT

-- `--attempts N`: from 1 to 1,000, and 3 if it is not given
abbrev pub attempts_option : Rule
attempts_option = number_option_or (codes "attempts") 1 GREATEST_ATTEMPT (codes "3")

-- `--history FILE`
abbrev pub history_option : Rule
history_option = named_option (codes "history")

-- `--from FILE`
abbrev pub from_option : Rule
from_option = named_option (codes "from")

-- `--port P`: from 1 to 65,535, and it must be given
abbrev pub port_option : Rule
port_option = record (named_option (codes "port")) {
  required = true;
  parser = Some (Unsigned 1 GREATEST_PORT);
}

-- `--workers N`: from 1 to 16, and 4 if it is not given
abbrev pub workers_option : Rule
workers_option = number_option_or (codes "workers") 1 MOST_WORKERS (codes "4")

-- `--sessions N`: from 1 to 10,000, and 1 if it is not given
abbrev pub sessions_option : Rule
sessions_option = number_option_or (codes "sessions") 1 MOST_SESSIONS (codes "1")

-- `--turns N`: from 0 to 1,000,000, and 10,000 if it is not given
abbrev pub turns_option : Rule
turns_option = number_option_or (codes "turns") 0 MOST_TURNS (codes "10000")

-- `--socket N`: from 3 to 1,023
abbrev pub socket_option : Rule
socket_option = number_option (codes "socket") LEAST_SOCKET GREATEST_SOCKET

-- `--until-input-ends`
abbrev pub until_input_ends_flag : Rule
until_input_ends_flag = flag (codes "until-input-ends")

-- `--greeting LINE`
abbrev pub greeting_option : Rule
greeting_option = named_option (codes "greeting")

-- `--attentive`
abbrev pub attentive_flag : Rule
attentive_flag = flag (codes "attentive")

-- `--silent N`: from 1 to 2^64 - 1 nanoseconds
abbrev pub silent_option : Rule
silent_option = number_option (codes "silent") 1 GREATEST_MOMENT

-- `--since N`: from 0 to 2^64 - 1 nanoseconds
abbrev pub since_option : Rule
since_option = number_option (codes "since") 0 GREATEST_MOMENT

-- `--chains`
abbrev pub chains_flag : Rule
chains_flag = flag (codes "chains")

-- `FILE`, which must be given
abbrev pub file_argument : Rule
file_argument = record (new_rule (codes "file")) {
  value_names = 1;
  required = true;
}

-- the names that `--timer` takes
abbrev pub AreTimerNames : Bor (List (Bor Text)) → Type 0
AreTimerNames names = map (λ name. name.now) names.now
    ≡ codes "list" ∷ codes "heap" ∷ codes "pairing" ∷ codes "wheel" ∷ []
