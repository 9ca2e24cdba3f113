-- The text was sent whole, or a first part of it.
use Rattle.std.proofs.Common.{List, ℕ, Option, Err, ap, sym, subst, ◌∙◌, rules}
use Rattle.std.specs.Prelude.{is_err}
use Rattle.rb_history.specs.HistoryText.{history_text}
use Rattle.rb_history.specs.Written.{Writes}
use Rattle.rb_history.specs.declared.history_fault.HistoryFault.TheVariants.{Write}
use Rattle.rb_history.proofs.Writings.{writes_part}
use Rattle.rb_history.proofs.write.write_history.Goals as goal

pub returns-in-Err-clause-writes : goal.returns-in-Err-clause-writes
returns-in-Err-clause-writes g c =
    let written = c.write_history_in-written in
    let part = subst (λ (got : Option (List ℕ)). Writes {X = Unit {0}} (Err Write) got
    (history_text c.args.opening.now c.args.events.now) (g.W.Write.contents written.result.0.inner.now))
    (ap g.W.Write.contents c.new-writer.ensures.same)
    (writes_part written.result.1 _ _ _ (ap is_err c.in-Err.is) written.ensures.writes) in
    let name = sym (written.ensures.on.same_reference ∙ c.new-writer.ensures.same_reference) in
    search rules
