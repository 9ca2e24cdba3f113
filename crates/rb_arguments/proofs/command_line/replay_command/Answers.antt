-- Each step adds one rule to the command before it: the file, the chains flag, then the policy's.
use Rattle.std.proofs.Common.{◌≡◌, codes, false, rules}
use Rattle.clap.specs.Words.{app_of, new_app}
use Rattle.clap.specs.declared.builder.command.Command.TheViews.{out-Command}
use Rattle.rb_arguments.proofs.command_line.replay_command.Goals as goal

pub returns : goal.returns
returns c = λ plain.
    let begun : app_of c.about-plain.result ≡ new_app (codes "replay") = rw c.about-plain.ensures c.new.ensures.app in
    let local : (out-Command c.about-plain.result).has_globals ≡ false = search rules in
    c.with_policy.ensures plain _
    (c.with_option-chains.ensures _ _ c.chains_flag.ensures.rule
    (c.with_option-file.ensures _ _ c.file_argument.ensures.rule (begun, local)))
