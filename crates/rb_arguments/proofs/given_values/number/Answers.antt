-- The text that clap reads as a number stands in the row.
use Rattle.std.proofs.Common.{◌≡◌, IfSome, Some, subst, sym, rules}
use Rattle.clap.specs.Words.{found_of, one_text}
use Rattle.clap.proofs.WalkLemmas.{one_text-rows}
use Rattle.rb_delayed.specs.declared.moment.TheConstants.{GREATEST_MOMENT}
use Rattle.rb_arguments.specs.CommandLine.{HasNumberWithin, number_in}
use Rattle.rb_arguments.proofs.given_values.number.Goals as goal

pub returns-clause-number : goal.returns-clause-number
returns-clause-number c =
    let text = one_text (found_of c.args.given.now) c.args.id.now in
    let read : IfSome c.get_one.result (λ number. number_in text ≡ Some number) = search rules in
    subst (λ text. IfSome c.get_one.result (λ number. number_in text ≡ Some number))
    (one_text-rows (found_of c.args.given.now) c.args.id.now) read

pub returns-clause-taken : goal.returns-clause-taken
returns-clause-taken c within =
    let found : HasNumberWithin 0 GREATEST_MOMENT (one_text (found_of c.args.given.now) c.args.id.now) =
    subst (HasNumberWithin 0 GREATEST_MOMENT) (sym (one_text-rows (found_of c.args.given.now) c.args.id.now)) within in
    search rules
