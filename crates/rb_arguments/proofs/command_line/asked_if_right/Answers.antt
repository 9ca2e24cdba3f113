-- The command is the program of the spec, so the subcommand and the rows that it met are those of the spec.
use Rattle.std.proofs.Common.{◌∙◌, List, ap, refl, subst, map}
use Rattle.std.proofs.lemmas.Option.{IfSome_then}
use Rattle.clap.specs.Words.{Text, takes}
use Rattle.rb_arguments.specs.CommandLine.{SubcommandAsks}
use Rattle.rb_arguments.proofs.CommandLines.{met_by_program, wrong_if_none}
use Rattle.rb_arguments.proofs.command_line.asked_if_right.Goals as goal

pub returns-in_ok-asked_in-in-Ok-clause-given : goal.returns-in_ok-asked_in-in-Ok-clause-given
returns-in_ok-asked_in-in-Ok-clause-given c =
    let (scripted, served, scripted_are, served_are, program_is) = c.in_ok-program.ensures refl in
    let words : List Text = map (λ word. word.now) c.args.words.now in
    let met = met_by_program scripted served words c.in-Ok.matches program_is c.in-Ok.ensures.matches in
    IfSome_then c.in_ok-asked_in-in-Ok.field-0 c.in_ok-asked_in-in-Ok.ensures.asked
    (λ asked asks. record {
      scripted = scripted;
      scripted_are = scripted_are;
      served = served;
      served_are = served_are;
      asks = subst (λ read. SubcommandAsks read asked) met asks;
    })

-- right values are taken
pub returns-in_ok-asked_in-in-Ok-clause-wrong : goal.returns-in_ok-asked_in-in-Ok-clause-wrong
returns-in_ok-asked_in-in-Ok-clause-wrong c =
    let (scripted, served, scripted_are, served_are, program_is) = c.in_ok-program.ensures refl in
    let words : List Text = map (λ word. word.now) c.args.words.now in
    let met = met_by_program scripted served words c.in-Ok.matches program_is c.in-Ok.ensures.matches in
    wrong_if_none c.in_ok-asked_in-in-Ok.field-0 words
    (λ none. record {
      scripted = scripted;
      scripted_are = scripted_are;
      served = served;
      served_are = served_are;
      wrong = λ right.
          none (c.in_ok-asked_in-in-Ok.ensures.taken right.name right.rows (met ∙ right.met) right.alone right.right);
    })

-- clap refuses no words that it takes, unless memory runs out
pub returns-in_default : goal.returns-in_default
returns-in_default c =
    let (scripted, served, scripted_are, served_are, program_is) = c.in_ok-program.ensures refl in
    let words : List Text = map (λ word. word.now) c.args.words.now in
    record {
      in_range = tt;
      given = tt;
      wrong = record {
        scripted = scripted;
        scripted_are = scripted_are;
        served = served;
        served_are = served_are;
        wrong = λ right.
            c.in_default.not-OutOfMemory (c.kind.ensures ∙ c.in-Err.ensures.passes (ap (λ app. takes app words) program_is ∙ right.taken));
      };
      fault = tt;
    }
