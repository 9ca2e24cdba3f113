-- The port comes first, then the options of a queue, three of the server, those of its manners, and those of a run.
use Rattle.std.proofs.Common.{◌≡◌, codes, false, rules}
use Rattle.clap.specs.Words.{app_of, new_app}
use Rattle.clap.specs.declared.builder.command.Command.TheViews.{out-Command}
use Rattle.rb_arguments.proofs.command_line.serve_command.Goals as goal

pub returns : goal.returns
returns c = λ plain.
    let begun : app_of c.about-plain.result ≡ new_app (codes "serve") = rw c.about-plain.ensures c.new.ensures.app in
    let local : (out-Command c.about-plain.result).has_globals ≡ false = search rules in
    let (names, names_are, queue) = c.with_queue-queue.ensures in
    let server = c.with_option-turns.ensures _ _ c.turns_option.ensures.rule
    (c.with_option-sessions.ensures _ _ c.sessions_option.ensures.rule
    (c.with_option-workers.ensures _ _ c.workers_option.ensures.rule
    (queue _ (c.with_option-port.ensures _ _ c.port_option.ensures.rule (begun, local))))) in
    (names, names_are, c.with_run.ensures plain _ (c.with_manners-manners.ensures _ server))
