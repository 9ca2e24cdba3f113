-- The bytes that were matched spell the keyword; the tactics do not see it for the two longest.
use Rattle.std.proofs.Common.{rules, ◌≡◌, codes, arith}
use Rattle.std.proofs.lemmas.Slice.Eq.{text_from_reads}
use Rattle.rb_protocol.proofs.keywords.NumberKeyword.read.Goals as goal

pub returns-in-REMOVE-clause-some : goal.returns-in-REMOVE-clause-some
returns-in-REMOVE-clause-some c = λ value.
    let word : c.args.word.now ≡ codes "REMOVE" =
    text_from_reads _ _ (omega arith) (search rules depth 12) in
    cc

pub returns-in-POLLFOR-clause-some : goal.returns-in-POLLFOR-clause-some
returns-in-POLLFOR-clause-some c = λ value.
    let word : c.args.word.now ≡ codes "POLLFOR" =
    text_from_reads _ _ (omega arith) (search rules depth 12) in
    cc
