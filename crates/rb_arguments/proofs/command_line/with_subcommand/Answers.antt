-- The subcommand has no option for others, so the parser's clause applies.
use Rattle.std.proofs.Common.{◌∙◌, ap, ap₂, subst, Result}
use Rattle.std.proofs.lemmas.Result.{IfOk-weaker}
use Rattle.std.specs.declared.alloc.AllocError.{AllocError}
use Rattle.clap.specs.Words.{App, with_subcommand}
use Rattle.clap.specs.declared.builder.command.Command.{Command}
use Rattle.rb_arguments.specs.LocalCommand.{IsLocal}
use Rattle.rb_arguments.proofs.command_line.with_subcommand.Goals as goal

pub returns : goal.returns
returns c = λ app sub narrow local.
    let (sub_is, no_globals) = subst (λ (made : Result Command AllocError). IsLocal sub made) c.in_ok-subcommand.was local in
    IfOk-weaker c.subcommand.result _ _ (λ wider adds.
    adds.shape no_globals ∙ ap₂ with_subcommand narrow (ap (λ (a : App). a.top) sub_is)) c.subcommand.ensures
