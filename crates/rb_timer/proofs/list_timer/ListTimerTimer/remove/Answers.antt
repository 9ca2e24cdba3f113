-- What is read at the slot is its entry's expiry, and none written there takes it out.
use Rattle.std.proofs.Common.{rules, ◌<◌, length}
use Rattle.rb_timer.specs.Slots.{in_range_of_content, content_of-remove}
use Rattle.rb_timer.proofs.Rows.{get-content_of_read}
use Rattle.rb_timer.proofs.list_timer.ListTimerTimer.remove.Goals as goal

pub index_mut-requires : goal.index_mut-requires
index_mut-requires c =
    let expiries = c.args.self.now.expiries.items in
    let within : c.args.slot < length expiries = in_range_of_content expiries c.args.slot c.requires in
    search rules

pub unwrap-requires : goal.unwrap-requires
unwrap-requires c =
    cc (get-content_of_read c.args.self.now.expiries.items c.args.slot _ c.requires c.index_mut.ensures.value)

pub returns-clause-value : goal.returns-clause-value
returns-clause-value c =
    cc (get-content_of_read c.args.self.now.expiries.items c.args.slot _ c.requires c.index_mut.ensures.value)

pub returns-clause-content : goal.returns-clause-content
returns-clause-content c =
    let expiries = c.args.self.now.expiries.items in
    cc (content_of-remove expiries c.args.slot (in_range_of_content expiries c.args.slot c.requires))
