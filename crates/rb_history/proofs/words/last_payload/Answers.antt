-- With a word behind it the payload is not the only one.
use Rattle.std.proofs.Common.{sym, ◌∙◌}
use Rattle.rb_history.proofs.Spelled.{not_alone}
use Rattle.rb_history.proofs.words.last_payload.Goals as goal

pub returns-then-is_some-clause-none : goal.returns-then-is_some-clause-none
returns-then-is_some-clause-none c = λ payload valid is.
    not_alone _ _ _ c.in_ok-word.rest (sym c.is_some.ensures ∙ c.if-is_some.true) c.in_ok-word.ensures.some is
