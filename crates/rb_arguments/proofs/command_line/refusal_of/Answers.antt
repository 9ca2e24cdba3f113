-- An error for a value is not help.
use Rattle.std.proofs.Common.{◌≡◌, List, Result, Ok, Err, IfOk, inl, inr}
use Rattle.clap.specs.Words.{Text, kind_of}
use Rattle.clap.specs.declared.error.Error.{Error}
use Rattle.clap.specs.declared.error.kind.ErrorKind.TheVariants.{InvalidValue}
use Rattle.rb_arguments.specs.RightWords.{AskForHelp, ShowsHelp}
use Rattle.rb_arguments.proofs.command_line.refusal_of.Goals as goal

no_help : {E : Type 0} (words : List Text) (result : Result Error E) → IfOk result (λ fault. kind_of fault ≡ InvalidValue)
    → IfOk result (λ fault. ShowsHelp (kind_of fault) → AskForHelp words)
no_help words (Ok fault) is = λ shows. absurd (elim shows [ inl help ↦ cc | inr version ↦ cc ])
no_help words (Err fault) is = tt

pub returns : goal.returns
returns c = record { help = no_help _ c.error.result c.error.ensures.kind }
