-- There are as many entries as slots with an expiry.
use Rattle.std.proofs.Common.{◌≡◌, ◌∙◌, sym, is_some, rules}
use Rattle.std.specs.List.{count_by}
use Rattle.rb_timer.specs.Slots.{len-content_of}
use Rattle.rb_timer.proofs.list_timer.ListTimerTimer.len.Goals as goal

pub returns : goal.returns
returns c =
    let counted : c.count.result ≡ count_by is_some c.args.self.now.expiries.items = search rules in
    counted ∙ sym (len-content_of c.args.self.now.expiries.items)
