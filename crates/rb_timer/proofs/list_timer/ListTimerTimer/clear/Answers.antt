-- A row of none has no entry.
use Rattle.std.proofs.Common.{vec_len, rules}
use Rattle.rb_timer.specs.Slots.{content_of-none}
use Rattle.rb_timer.proofs.list_timer.ListTimerTimer.clear.Goals as goal

pub returns-clause-content : goal.returns-clause-content
returns-clause-content c =
    rw (c.fill.ensures.items (λ y is. search rules)) (content_of-none (vec_len c.args.self.now.expiries))
