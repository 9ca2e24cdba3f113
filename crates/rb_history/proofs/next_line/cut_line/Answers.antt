-- The cut is at the first line feed, so the line has none; without one no line is whole.
use Rattle.std.proofs.Common.{sym}
use Rattle.std.proofs.lemmas.List.{take_rest}
use Rattle.rb_history.proofs.FirstFeeds.{cut_at, front_lacks, whole_lacks}
use Rattle.rb_history.proofs.next_line.cut_line.Goals as goal

pub returns-clause-text : goal.returns-clause-text
returns-clause-text c = rw take_rest (cut_at c.args.text.now c.in_ok-place.place (sym c.in_ok-place.ensures))

pub returns-clause-line : goal.returns-clause-line
returns-clause-line c = front_lacks c.args.text.now c.in_ok-place.place (sym c.in_ok-place.ensures)

pub returns-in_err-place-clause-none : goal.returns-in_err-place-clause-none
returns-in_err-place-clause-none c = rw c.from_residual.ensures (whole_lacks c.args.text.now (sym c.in_err-place.ensures))
