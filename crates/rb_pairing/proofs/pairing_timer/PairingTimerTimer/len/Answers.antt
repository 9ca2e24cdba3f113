-- As many entries are counted as the content has.
use Rattle.std.proofs.Common.{sym, ◌∙◌}
use Rattle.rb_timer.specs.Slots.{len-content_of}
use Rattle.rb_pairing.specs.Nodes.{expiries}
use Rattle.rb_pairing.proofs.pairing_timer.PairingTimerTimer.len.Goals as goal

pub returns : goal.returns
returns c =
    c.args.self.now.counted ∙ sym (len-content_of (expiries c.args.self.now.nodes))
