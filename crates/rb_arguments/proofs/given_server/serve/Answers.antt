-- The values that the options, the greeting and the files were made of stand in the rows.
use Rattle.std.proofs.Common.{refl}
use Rattle.rb_arguments.proofs.given_server.serve.Goals as goal

pub returns-clause-asked : goal.returns-clause-asked
returns-clause-asked c = (
  refl,
  c.in-Some.ensures.given,
  c.in_ok-greeting.ensures,
  record { history_is = c.in_ok-history.ensures; from_is = c.in_ok-from.ensures },
)
