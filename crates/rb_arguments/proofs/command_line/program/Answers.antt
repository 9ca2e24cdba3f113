-- The program is put together step by step: its name, the need for a subcommand, then the three.
use Rattle.std.proofs.Common.{◌≡◌, ◌∙◌, ap, refl, codes}
use Rattle.std.proofs.lemmas.Result.{IfOk-weaker}
use Rattle.clap.specs.Words.{app_of, new_app}
use Rattle.rb_arguments.specs.CommandLine.{with_required_subcommand}
use Rattle.rb_arguments.proofs.command_line.program.Goals as goal

pub returns : goal.returns
returns c = λ plain.
    let (scripted, scripted_are, script) = c.script_command.ensures plain in
    let (served, served_are, serve) = c.serve_command.ensures plain in
    let named : app_of c.about.result ≡ new_app (codes "rb_broker") = rw c.about.ensures c.new.ensures.app in
    let required : app_of c.subcommand_required-bare.result ≡ with_required_subcommand (app_of c.about.result) =
    rw c.subcommand_required-bare.ensures refl in
    IfOk-weaker c.with_subcommand-3.result _ _ (λ command made. (scripted, served, scripted_are, served_are, made))
    (c.with_subcommand-3.ensures _ _
    (c.in_ok-replays.ensures _ _
    (c.in_ok-scripts.ensures _ _ (required ∙ ap with_required_subcommand named) script)
    (c.replay_command.ensures plain)) serve)
