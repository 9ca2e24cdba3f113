-- A command whose options all belong to it alone. No public clause cites this module.
use Rattle.std.specs.Prelude.{◌≡◌, false, Result, IfOk}
use Rattle.std.specs.declared.alloc.AllocError.{AllocError}
use Rattle.clap.specs.Words.{App, app_of}
use Rattle.clap.specs.declared.builder.command.Command.{Command}
use Rattle.clap.specs.declared.builder.command.Command.TheViews.{out-Command}

-- the command, if it could be made, takes what `app` says
abbrev pub IsLocal : App → Result Command AllocError → Type 0
IsLocal app made = IfOk made (λ command. (app_of command ≡ app) × ((out-Command command).has_globals ≡ false))
