-- A removal has an id and one word more, so a line with further words is none.
use Rattle.std.proofs.Common.{◌≡◌, [], ◌∷◌, codes, sym, ◌∙◌}
use Rattle.std.specs.Prelude.{if◌then◌else◌}
use Rattle.rb_protocol.specs.Words.{words_behind}
use Rattle.rb_history.proofs.Spelled.{not_alone}
use Rattle.rb_history.proofs.Keywords.{only_remove}
use Rattle.rb_history.proofs.read_act.remove.Goals as goal

pub returns-then-is_some : goal.returns-then-is_some
returns-then-is_some c = λ version act right is.
    only_remove version _ (λ id found small words.
    let rest : words_behind c.in_ok-id.rest ≡ (if found then codes "yes" else codes "no") ∷ [] = cc (c.in_ok-id.ensures.some, words) in
    not_alone _ _ _ c.in_ok-word.rest (sym c.is_some.ensures ∙ c.if-is_some.true) c.in_ok-word.ensures.some rest) act right is
