-- An option is found exactly if it has a row.
use Rattle.std.proofs.Common.{◌∙◌, sym}
use Rattle.clap.specs.Words.{found_of, rows_of}
use Rattle.rb_arguments.proofs.CommandLines.{has_row_here, no_row}
use Rattle.rb_arguments.proofs.given_values.has_value.Goals as goal

pub returns-clause-row : goal.returns-clause-row
returns-clause-row c = c.contains_id.ensures ∙ has_row_here (found_of c.args.given.now) c.args.id.now

pub returns-clause-none : goal.returns-clause-none
returns-clause-none c none =
    let found = found_of c.args.given.now in
    no_row c.args.id.now (rows_of found) (sym (c.contains_id.ensures ∙ has_row_here found c.args.id.now) ∙ none)
