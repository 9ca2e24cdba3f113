-- What was given is one word, so two words tell nothing given.
use Rattle.std.proofs.Common.{sym, ◌∙◌}
use Rattle.rb_history.proofs.Spelled.{not_given}
use Rattle.rb_history.proofs.words.last_given.Goals as goal

pub returns-then-is_some-clause-none : goal.returns-then-is_some-clause-none
returns-then-is_some-clause-none c = λ given right is.
    not_given _ _ c.in_ok-word.rest given (sym c.is_some.ensures ∙ c.if-is_some.true) c.in_ok-word.ensures.some is
