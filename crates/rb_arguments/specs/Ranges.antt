-- The ranges of the numbers that words give.
use Rattle.std.specs.Prelude.{ℕ, ◌≤◌, IfSome}
use Rattle.rb_kept.specs.declared.kept.TheConstants.{MOST_CALLS}
use Rattle.rb_retry.specs.Retry.{AreAttempts}
use Rattle.rb_options.specs.declared.script_options.ScriptOptions.{ScriptOptions}
use Rattle.rb_options.specs.declared.serve_options.ServeOptions.{ServeOptions}
use Rattle.rb_options.specs.declared.serve_options.TheConstants.{GREATEST_PORT, GREATEST_SOCKET, LEAST_SOCKET}
use Rattle.rb_options.specs.declared.serve_options.TheConstants.{MOST_SESSIONS, MOST_TURNS}
use Rattle.rb_options.specs.declared.server_run_options.ServerRunOptions.{ServerRunOptions}
use Rattle.rb_options.specs.declared.server_run_options.TheConstants.{MOST_WORKERS}
use Rattle.rb_arguments.specs.declared.words.Words.{Words}
use Rattle.rb_arguments.specs.declared.words.Words.TheVariants.{Script, Replay, Serve}

-- the number is from 1 to this
abbrev pub IsFromOneTo : ℕ → ℕ → Type 0
IsFromOneTo most number = (1 ≤ number) × (number ≤ most)

-- the numbers of `script` are in range
pub record IsScriptInRange (options : ScriptOptions) : Type 0 where
  pub calls : IsFromOneTo MOST_CALLS options.calls
  pub attempts : AreAttempts options.policy.attempts

-- the numbers of a server's run are in range
pub record IsServerRunInRange (options : ServerRunOptions) : Type 0 where
  pub workers : IsFromOneTo MOST_WORKERS options.workers
  pub calls : IsFromOneTo MOST_CALLS options.calls
  pub attempts : AreAttempts options.policy.attempts

-- the numbers of `serve` are in range
pub record IsServerInRange (options : ServeOptions) : Type 0 where
  pub port : IsFromOneTo GREATEST_PORT options.port
  pub sessions : IsFromOneTo MOST_SESSIONS options.sessions
  pub turns : options.turns ≤ MOST_TURNS
  pub socket : IfSome options.socket (λ socket. (LEAST_SOCKET ≤ socket) × (socket ≤ GREATEST_SOCKET))
  pub silent : IfSome options.silent (λ silent. 1 ≤ silent)
  pub run : IsServerRunInRange options.run

-- all numbers that the words give are in range
abbrev pub AreInRange : Words → Type 0
AreInRange (Script options history from) = IsScriptInRange options
AreInRange (Replay options file) = IfSome options.chains (λ policy. AreAttempts policy.attempts)
AreInRange (Serve options greeting history from) = IsServerInRange options
