-- What the command line takes, and what its words give.
use Rattle.std.specs.Prelude.{◌≡◌, ◌≢◌, ◌↔◌, IsTrue, ℕ, ◌≤◌, Bool, true, false, ◌&&◌, List, Option, Some, None, MatchBool}
use Rattle.std.specs.Prelude.{option_map, codes, String, string_bytes}
use Rattle.std.specs.declared.alloc.Global.{Global}
use Rattle.std.specs.Borrow.{Bor}
use Rattle.std.specs.Str.Parse.{IsNumeral, digits_value, without_leading_plus}
use Rattle.clap.specs.Takes.{is_given}
use Rattle.clap.specs.Walk.{has_row}
use Rattle.clap.specs.Words.{App, Row, Shape, Text, first_of, found_of, one_of, new_app, rows_of, subcommand_of}
use Rattle.clap.specs.Words.{with_rule, with_subcommand}
use Rattle.clap.specs.declared.parser.matches.ArgMatches.{ArgMatches}
use Rattle.rb_delayed.specs.declared.moment.TheConstants.{GREATEST_MOMENT}
use Rattle.rb_retry.specs.declared.policy.Pace.{Pace}
use Rattle.rb_retry.specs.declared.policy.Pace.TheVariants.{Delay, Rate}
use Rattle.rb_retry.specs.declared.policy.Policy.{Policy}
use Rattle.rb_arguments.specs.Arguments.{AreTimerNames, attempts_option, calls_option, chains_flag, delay_option}
use Rattle.rb_arguments.specs.Arguments.{file_argument, from_option, history_option, port_option, rate_option}
use Rattle.rb_arguments.specs.Arguments.{sessions_option, timer_option, turns_option, workers_option}
use Rattle.rb_arguments.specs.Arguments.{attentive_flag, greeting_option, silent_option, since_option, socket_option}
use Rattle.rb_arguments.specs.Arguments.{until_input_ends_flag}
use Rattle.rb_options.specs.TimerKind.{timer_name}
use Rattle.rb_options.specs.declared.script_options.ScriptOptions.{ScriptOptions}
use Rattle.rb_options.specs.declared.serve_options.ServeOptions.{ServeOptions}
use Rattle.rb_options.specs.declared.server_run_options.ServerRunOptions.{ServerRunOptions}
use Rattle.rb_arguments.specs.declared.words.Words.{Words}
use Rattle.rb_arguments.specs.declared.words.Words.TheVariants.{Script, Replay, Serve}

-- a command with the options of a policy
abbrev pub with_policy : App → App
with_policy app = with_rule (with_rule (with_rule app delay_option) rate_option) attempts_option

-- a command with the options of a queue
abbrev pub with_queue : Bor (List (Bor Text)) → App → App
with_queue names app = with_rule (with_rule app calls_option) (timer_option names)

-- a command with the files of a run and the options of a policy
abbrev pub with_run : App → App
with_run app = with_policy (with_rule (with_rule app history_option) from_option)

-- a command with the options that only a server has, but for its port
abbrev pub with_server : App → App
with_server app = with_rule (with_rule (with_rule app workers_option) sessions_option) turns_option

-- a command with the options of a server that is attended, and of how it treats its clients
abbrev pub with_manners : App → App
with_manners app =
    with_rule (with_rule (with_rule (with_rule (with_rule (with_rule app socket_option) until_input_ends_flag)
    greeting_option) attentive_flag) silent_option) since_option

-- `script` with its options
abbrev pub script_command : Bor (List (Bor Text)) → App
script_command names = with_run (with_queue names (new_app (codes "script")))

-- `replay` with its file and its options
abbrev pub replay_command : App
replay_command = with_policy (with_rule (with_rule (new_app (codes "replay")) file_argument) chains_flag)

-- `serve` with its options
abbrev pub serve_command : Bor (List (Bor Text)) → App
serve_command names =
    with_run (with_manners (with_server (with_queue names (with_rule (new_app (codes "serve")) port_option))))

-- the command, which wants a subcommand
abbrev pub with_required_subcommand : App → App
with_required_subcommand app = record app { top = record app.top { subcommand_required = true } }

-- the program with these three subcommands
abbrev pub with_commands : Shape → Shape → Shape → App
with_commands script replay serve =
    let alone = with_required_subcommand (new_app (codes "rb_broker")) in
    with_subcommand (with_subcommand (with_subcommand alone script) replay) serve

-- the program with its subcommands, two of which take the name of a timer
abbrev pub program : Bor (List (Bor Text)) → Bor (List (Bor Text)) → App
program scripted served = with_commands (script_command scripted).top replay_command.top (serve_command served).top

-- what was found for the options of a subcommand
abbrev pub given_rows : ArgMatches → List Row
given_rows given = rows_of (found_of given)

-- The words give both a delay and a rate. Of all options these two alone conflict; a default does not count.
abbrev pub names_both : List Row → Bool
names_both rows = is_given (codes "delay") rows && is_given (codes "rate") rows

-- the number that the digits of an option's value spell
abbrev pub number_in : Option Text → Option ℕ
number_in = option_map (λ digits. digits_value 10 (without_leading_plus digits))

-- the value of an option is a number in this range
abbrev pub HasNumberWithin : ℕ → ℕ → Option Text → Type 0
HasNumberWithin least most value = (digits : Text) × (value ≡ Some digits) × IsNumeral 10 (without_leading_plus digits)
    × (least ≤ digits_value 10 (without_leading_plus digits)) × (digits_value 10 (without_leading_plus digits) ≤ most)

-- a rate was given, or there is a delay
abbrev pub HasPace : List Row → Type 0
HasPace rows = MatchBool (has_row (codes "rate") rows)
    (HasNumberWithin 0 GREATEST_MOMENT (one_of (codes "rate") rows))
    (HasNumberWithin 0 GREATEST_MOMENT (one_of (codes "delay") rows))

-- the pace that a delay's value and a rate's give: the rate, if there is one
abbrev pub pace_in : Option Text → Option Text → Option Pace
pace_in delay None = option_map Delay (number_in delay)
pace_in delay (Some rate) = Some (Rate (digits_value 10 (without_leading_plus rate)))

-- the pace that the values give
abbrev pub given_pace : List Row → Option Pace
given_pace rows = pace_in (one_of (codes "delay") rows) (one_of (codes "rate") rows)

-- the values give this policy
pub record GivesPolicy (rows : List Row) (policy : Policy) : Type 0 where
  pub attempts : number_in (one_of (codes "attempts") rows) ≡ Some policy.attempts
  pub pace : given_pace rows ≡ Some policy.pace

-- The values of `script` give its options. The timer is the one that is named, and the numbers are those
-- that are given; each that is left out is the default.
pub record GivesScriptOptions (rows : List Row) (options : ScriptOptions) : Type 0 where
  pub timer : first_of (codes "timer") rows ≡ Some (timer_name options.timer)
  pub calls : number_in (one_of (codes "calls") rows) ≡ Some options.calls
  pub policy : GivesPolicy rows options.policy

-- the values of `serve` give the options of its run
pub record GivesServerRun (rows : List Row) (options : ServerRunOptions) : Type 0 where
  pub workers : number_in (one_of (codes "workers") rows) ≡ Some options.workers
  pub calls : number_in (one_of (codes "calls") rows) ≡ Some options.calls
  pub policy : GivesPolicy rows options.policy

-- a flag is set exactly if its value says so
abbrev pub GivesFlag : Text → List Row → Bool → Type 0
GivesFlag id rows set = IsTrue set ↔ (first_of id rows ≡ Some (codes "true"))

-- The values of `serve` give its options. Each that is left out is the default, or none.
pub record GivesServeOptions (rows : List Row) (options : ServeOptions) : Type 0 where
  pub port : number_in (one_of (codes "port") rows) ≡ Some options.port
  pub timer : first_of (codes "timer") rows ≡ Some (timer_name options.timer)
  pub sessions : number_in (one_of (codes "sessions") rows) ≡ Some options.sessions
  pub turns : number_in (one_of (codes "turns") rows) ≡ Some options.turns
  pub socket : number_in (one_of (codes "socket") rows) ≡ options.socket
  pub until_input_ends : GivesFlag (codes "until-input-ends") rows options.until_input_ends
  pub attentive : GivesFlag (codes "attentive") rows options.attentive
  pub silent : number_in (one_of (codes "silent") rows) ≡ options.silent
  pub since : number_in (one_of (codes "since") rows) ≡ options.since
  pub run : GivesServerRun rows options.run

-- the values name the file that a run's history is written to, and the one that it continues
pub record GivesFiles (rows : List Row) (history from : Option (String Global)) : Type 0 where
  pub history_is : option_map string_bytes history ≡ first_of (codes "history") rows
  pub from_is : option_map string_bytes from ≡ first_of (codes "from") rows

-- the retries are checked exactly if the flag is set, and then by the policy that is given
abbrev pub GivesChains : List Row → Option Policy → Type 0
GivesChains rows None = first_of (codes "chains") rows ≢ Some (codes "true")
GivesChains rows (Some policy) = (first_of (codes "chains") rows ≡ Some (codes "true")) × GivesPolicy rows policy

-- the subcommand of this name, with these values, asks for this
abbrev pub IsAskedBy : Text → List Row → Words → Type 0
IsAskedBy name rows (Script options history from) =
    (name ≡ codes "script") × GivesScriptOptions rows options × GivesFiles rows history from
IsAskedBy name rows (Replay options file) =
    (name ≡ codes "replay") × GivesChains rows options.chains
    × (first_of (codes "file") rows ≡ Some (string_bytes file))
IsAskedBy name rows (Serve options greeting history from) =
    (name ≡ codes "serve") × GivesServeOptions rows options
    × (option_map string_bytes greeting ≡ first_of (codes "greeting") rows) × GivesFiles rows history from

-- a subcommand was met that asks for this, and its values do not have both a delay and a rate
pub record SubcommandAsks (met : Option (Text × List Row)) (asked : Words) : Type 0 where
  pub name : Text
  pub rows : List Row
  pub met_is : met ≡ Some (name, rows)
  pub alone : names_both rows ≡ false
  pub gives : IsAskedBy name rows asked

-- The words name a subcommand, which asks for this, and they do not give both a delay and a rate. `subcommand_of`
-- is how clap reads the words, defaults included.
pub record Asks (words : List Text) (asked : Words) : Type 0 where
  pub scripted : Bor (List (Bor Text))
  pub scripted_are : AreTimerNames scripted
  pub served : Bor (List (Bor Text))
  pub served_are : AreTimerNames served
  pub asks : SubcommandAsks (subcommand_of (program scripted served) words) asked
