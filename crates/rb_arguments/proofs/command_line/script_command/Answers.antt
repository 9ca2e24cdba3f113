-- The options of a queue come first, and then those of a run.
use Rattle.std.proofs.Common.{◌≡◌, codes, false, rules}
use Rattle.clap.specs.Words.{app_of, new_app}
use Rattle.clap.specs.declared.builder.command.Command.TheViews.{out-Command}
use Rattle.rb_arguments.proofs.command_line.script_command.Goals as goal

pub returns : goal.returns
returns c = λ plain.
    let begun : app_of c.about-plain.result ≡ new_app (codes "script") = rw c.about-plain.ensures c.new.ensures.app in
    let local : (out-Command c.about-plain.result).has_globals ≡ false = search rules in
    let (names, names_are, queue) = c.with_queue-queue.ensures in
    (names, names_are, c.with_run.ensures plain _ (queue _ (begun, local)))
