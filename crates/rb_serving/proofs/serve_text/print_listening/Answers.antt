-- The bytes that are printed are those of the line.
use Rattle.std.proofs.Common.{◌≡◌, ◌∙◌, subst}
use Rattle.rb_serving.specs.ServeText.{Prints, listening_text}
use Rattle.rb_serving.proofs.serve_text.print_listening.Goals as goal

pub returns : goal.returns
returns g c =
    let line : c.deref.result.now ≡ listening_text c.args.port = c.deref.ensures ∙ c.in_ok-line.ensures.ok in
    subst (λ text. Prints g.W.Write.contents c.print.result c.args.writer.now text c.print.new.writer) line c.print.ensures
