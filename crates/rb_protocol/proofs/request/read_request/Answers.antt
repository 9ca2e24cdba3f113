-- A line whose words are too many or empty is no request at all, so `Syntax` is its first fault.
use Rattle.std.proofs.Common.{rules, ◌≡◌, None, Err, arith}
use Rattle.rb_protocol.specs.declared.line_fault.LineFault.TheVariants.{Syntax}
use Rattle.rb_protocol.proofs.Faults.{takes_few}
use Rattle.rb_protocol.proofs.request.read_request.Goals as goal

pub returns-in_err-keyword : goal.returns-in_err-keyword
returns-in_err-keyword c =
    let refused : c.from_residual.result ≡ Err Syntax = search rules in
    let none : c.read_line_words.result ≡ None = search rules in
    rw refused (
      omega arith,
      λ keyword places h. (rw none at c.read_line_words.ensures.none) keyword places h.words
          (record { no_gap = h.no_gap; few = takes_few keyword _ h.known }),
    )
