-- The flag and the file stand in the rows.
use Rattle.std.proofs.Common.{◌∙◌, refl, sym, ap, option_map, string_bytes}
use Rattle.rb_arguments.proofs.given_words.replay.Goals as goal

pub returns-in-Some-2-clause-asked : goal.returns-in-Some-2-clause-asked
returns-in-Some-2-clause-asked c = (
  refl,
  c.in-Some.ensures.given,
  sym c.in_ok-file.ensures ∙ ap (option_map string_bytes) c.in-Some-2.is,
)
