-- The bytes that were matched spell `OFFERAT`, which is too long for the tactics to see it.
use Rattle.std.proofs.Common.{rules, ◌≡◌, codes, arith}
use Rattle.std.proofs.lemmas.Slice.Eq.{text_from_reads}
use Rattle.rb_protocol.proofs.keywords.OfferKeyword.read.Goals as goal

pub returns-in-OFFERAT-clause-some : goal.returns-in-OFFERAT-clause-some
returns-in-OFFERAT-clause-some c = λ value payload.
    let word : c.args.word.now ≡ codes "OFFERAT" =
    text_from_reads _ _ (omega arith) (search rules depth 12) in
    cc
