-- An expiry written at a slot is an entry added.
use Rattle.rb_timer.specs.Slots.{content_of-insert}
use Rattle.rb_timer.proofs.list_timer.ListTimerTimer.insert.Goals as goal

pub returns-clause-content : goal.returns-clause-content
returns-clause-content c =
    content_of-insert c.args.self.now.expiries.items c.args.slot c.args.expiry c.requires.in_room
