-- The subcommand that was met has its name and its rows, and `asked_by` says what those ask for.
use Rattle.std.proofs.Common.{◌≡◌, ◌∙◌, List, Some, ap, subst, sym}
use Rattle.std.proofs.lemmas.Option.{same_Some}
use Rattle.clap.specs.Words.{Row, Text, found_of, rows_of, subcommand_rows_of}
use Rattle.rb_arguments.specs.CommandLine.{names_both}
use Rattle.rb_arguments.specs.RightValues.{AreRightFor}
use Rattle.rb_arguments.proofs.CommandLines.{name_with_rows, name_without, subcommand_asks}
use Rattle.rb_arguments.proofs.command_line.asked_in.Goals as goal

pub returns-in-Some-clause-asked : goal.returns-in-Some-clause-asked
returns-in-Some-clause-asked c =
    let rows = rows_of (found_of c.in-Some.given.now) in
    let met : subcommand_rows_of c.args.matches.now ≡ Some (c.in-Some.name.now, rows) =
    name_with_rows _ _ _ _ c.in-Some.ensures.name c.in-Some.ensures.rows in
    subcommand_asks c.asked_by.result _ _ _ met c.asked_by.ensures.asked c.asked_by.ensures.alone

pub returns-in-Some-clause-taken : goal.returns-in-Some-clause-taken
returns-in-Some-clause-taken c name rows met alone right =
    let found = rows_of (found_of c.in-Some.given.now) in
    let here : subcommand_rows_of c.args.matches.now ≡ Some (c.in-Some.name.now, found) =
    name_with_rows _ _ _ _ c.in-Some.ensures.name c.in-Some.ensures.rows in
    let same : ◌≡◌ {A = Text × List Row} (name, rows) (c.in-Some.name.now, found) = same_Some _ _ (sym met ∙ here) in
    c.asked_by.ensures.taken (ap (λ (p : Text × List Row). names_both p.1) (sym same) ∙ alone)
    (subst (λ (p : Text × List Row). AreRightFor p.0 p.1) same right)

pub returns-in-None-clause-taken : goal.returns-in-None-clause-taken
returns-in-None-clause-taken c name rows met alone right = absurd (name_without _ _ (name, rows) c.in-None.ensures.variant met)
