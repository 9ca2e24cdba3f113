-- A line whose next id or count passes its limit, or that has no last moment, opens nothing.
use Rattle.std.proofs.Common.{◌≡◌, [], ◌∷◌, decimal, arith}
use Rattle.rb_protocol.specs.Words.{words_behind}
use Rattle.rb_history.proofs.Spelled.{same_number}
use Rattle.rb_history.proofs.read_opening.read_open.Goals as goal

pub returns-in_err-last_at-clause-none : goal.returns-in_err-last_at-clause-none
returns-in_err-last_at-clause-none c =
    rw c.from_residual-in_err-last_at.ensures (λ next last count small h.
    let rest : words_behind c.in_ok-next_id.rest ≡ decimal last ∷ decimal count ∷ [] =
    cc (c.in_ok-word.ensures.some, c.in_ok-next_id.ensures.some, h.words_are) in
    c.in_err-last_at.ensures.none last _ small rest)

pub returns-then-next_id-gt-GREATEST_OPENING_ID-clause-none : goal.returns-then-next_id-gt-GREATEST_OPENING_ID-clause-none
returns-then-next_id-gt-GREATEST_OPENING_ID-clause-none c = λ next last count small h.
    let rest : words_behind c.in_ok-word.rest ≡ decimal next ∷ decimal last ∷ decimal count ∷ [] = cc (c.in_ok-word.ensures.some, h.words_are) in
    let same = same_number _ _ _ c.in_ok-next_id.next_id next c.in_ok-next_id.ensures.small (omega (arith, h.next)) c.in_ok-next_id.ensures.some rest in
    omega (arith, same, h.next, c.if-next_id-gt-GREATEST_OPENING_ID.true)

pub returns-then-count-clause-none : goal.returns-then-count-clause-none
returns-then-count-clause-none c = λ next last count small h.
    let rest : words_behind c.in_ok-last_at.rest ≡ decimal count ∷ [] =
    cc (c.in_ok-word.ensures.some, c.in_ok-next_id.ensures.some, c.in_ok-last_at.ensures.some, h.words_are) in
    let same = same_number _ _ _ c.in_ok-count.count count c.in_ok-count.ensures.small (omega (arith, h.few)) c.in_ok-count.ensures.some rest in
    omega (arith, same, h.few, c.if-count.true)
