-- An option that is not global adds its own rule and no other, so the parser's clause applies.
use Rattle.std.proofs.Common.{◌∙◌, ◌||◌, ap₂, subst, Result}
use Rattle.std.proofs.lemmas.Result.{IfOk-weaker}
use Rattle.std.specs.declared.alloc.AllocError.{AllocError}
use Rattle.clap.specs.Words.{with_rule}
use Rattle.clap.specs.declared.builder.command.Command.{Command}
use Rattle.rb_arguments.specs.LocalCommand.{IsLocal}
use Rattle.rb_arguments.proofs.command_line.with_option.Goals as goal

pub returns : goal.returns
returns c = λ app rule is narrow.
    let (app_is, local) = subst (λ (made : Result Command AllocError). IsLocal app made) c.in_ok-command.was narrow in
    IfOk-weaker c.arg.result _ _ (λ wider adds.
    (adds.shape c.requires.local ∙ ap₂ with_rule app_is is, adds.globals ∙ ap₂ ◌||◌ local c.requires.local)) c.arg.ensures
