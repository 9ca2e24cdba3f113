-- Words are refused for one of three reasons: the first or second is empty, or a third is there.
use Rattle.std.proofs.Common.{rules, ◌≡◌, ◌∷◌, ◌<◌, length, arith}
use Rattle.std.proofs.lemmas.Bool.Decides.{nat_tests}
use Rattle.rb_protocol.proofs.Cuts.{first_filled, second_filled, words_behind_some}
use Rattle.rb_protocol.specs.Words.{words_behind}
use Rattle.rb_protocol.proofs.line_words.read_places.Goals as goal
use Rattle.rb_protocol.proofs.line_words.read_places.Goals.{then-is_empty-via-then-is_empty, then-is_empty-via-else-is_empty+then-is_empty-2, then-is_empty-via-else-is_empty+else-is_empty-2+then-is_some}

pub returns-then-is_empty-clause-none : goal.returns-then-is_empty-clause-none
returns-then-is_empty-clause-none c =
    let words : words_behind c.args.rest ≡ c.cut_word.result.0.now ∷ c.cut_word-2.result.0.now ∷ words_behind c.cut_word-2.result.1 = search rules in
    rw words (λ few. elim c.then-is_empty.branch [
      | then-is_empty-via-then-is_empty w ↦
          let filled = first_filled _ _ few in grind (arith, nat_tests)
      | then-is_empty-via-else-is_empty+then-is_empty-2 w ↦
          let filled = second_filled _ _ _ few in grind (arith, nat_tests)
      | then-is_empty-via-else-is_empty+else-is_empty-2+then-is_some w ↦
          let more : 0 < length (words_behind c.cut_word-2.result.1) =
          words_behind_some c.cut_word-2.result.1 (search rules) in
          omega arith
    ])
