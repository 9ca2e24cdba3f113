-- The lowest bit of the first word that is not 0 is a marked cell, and none before it is.
use Rattle.std.proofs.Common.{◌<◌, ◌^◌, get_or, refl, arith}
use Rattle.rb_wheel.proofs.MarkedCells.{first_marked, first_least}
use Rattle.rb_wheel.proofs.marks.Marks.first.Goals as goal

pub returns-then-word-ne0-clause-first : goal.returns-then-word-ne0-clause-first
returns-then-word-ne0-clause-first c =
    let words = c.args.self.now.words in
    let level = c.loop-level.level in
    let low = c.loop-level.invariant in
    let fits : get_or words level 0 < 2 ^ 64 = omega arith in (
      first_marked words level low (get_or words level 0) refl (omega arith) fits,
      first_least words level low (get_or words level 0) refl (omega arith) fits,
    )
