-- A clear has no words behind its keyword, so a line with more is none.
use Rattle.std.proofs.Common.{length, sym, ap, ◌∙◌, arith}
use Rattle.rb_protocol.proofs.Cuts.{words_behind_some}
use Rattle.rb_history.proofs.Keywords.{only_clear}
use Rattle.rb_history.proofs.read_act.clear.Goals as goal

pub returns-then-is_some : goal.returns-then-is_some
returns-then-is_some c = λ version act right is.
    only_clear version _ (λ none. omega (arith, words_behind_some c.args.rest (sym c.is_some.ensures ∙ c.if-is_some.true), ap length none)) act right is
