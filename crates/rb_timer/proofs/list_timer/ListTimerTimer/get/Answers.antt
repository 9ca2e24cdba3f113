-- The content has at a slot what the row has there.
use Rattle.std.proofs.Common.{arith}
use Rattle.std.proofs.lemmas.Grind.{common_steps}
use Rattle.std.proofs.lemmas.Option.{gets}
use Rattle.rb_timer.specs.Slots.{get-content_of}
use Rattle.rb_timer.proofs.list_timer.ListTimerTimer.get.Goals as goal

pub returns : goal.returns
returns c =
    let at_slot = get-content_of c.args.self.now.expiries.items c.args.slot in
    grind (arith, common_steps, gets, at_slot)
