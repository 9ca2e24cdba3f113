-- What was read from is the reader itself, from what it had left to what it has left.
use Rattle.std.proofs.Common.{rules, ℕ, List, Option, sym, ap, subst, ◌∙◌}
use Rattle.rb_runs.specs.FileText.{ReadsAll}
use Rattle.rb_runs.proofs.reading.read_all.Goals as goal

pub returns : goal.returns
returns g c =
    let pieces = c.read_all_limited in
    let left = g.R.Read.remaining pieces.new.reader.inner.now in
    let all : ReadsAll (g.R.Read.remaining c.args.reader.now) pieces.result left =
    subst (λ (old : Option (List ℕ)). ReadsAll old pieces.result left) (ap g.R.Read.remaining c.new.ensures.same) pieces.ensures.reads in
    let name = sym (pieces.ensures.same_reference ∙ c.new.ensures.same_reference) in
    search rules
