-- Where the value came from says whether the words gave it.
use Rattle.clap.specs.Words.{found_of}
use Rattle.rb_arguments.proofs.CommandLines.{given_by_default, given_by_words, given_if_found}
use Rattle.rb_arguments.proofs.given_values.is_given.Goals as goal

pub returns-in-Some-CommandLine : goal.returns-in-Some-CommandLine
returns-in-Some-CommandLine c =
    given_by_words (found_of c.args.given.now) c.args.id.now (rw c.in-Some-CommandLine.field-0-is at c.in-Some-CommandLine.ensures)

pub returns-in-Some-DefaultValue : goal.returns-in-Some-DefaultValue
returns-in-Some-DefaultValue c =
    given_by_default (found_of c.args.given.now) c.args.id.now (rw c.in-Some-DefaultValue.field-0-is at c.in-Some-DefaultValue.ensures)

pub returns-in-None : goal.returns-in-None
returns-in-None c = rw c.contains_id.ensures (given_if_found (found_of c.args.given.now) c.args.id.now c.in-None.ensures)
