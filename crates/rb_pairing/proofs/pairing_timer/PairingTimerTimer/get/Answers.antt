-- What the nodes say of the slot.
use Rattle.std.proofs.Common.{◌∙◌, sym}
use Rattle.rb_pairing.proofs.Contents.{get-content}
use Rattle.rb_pairing.proofs.pairing_timer.PairingTimerTimer.get.Goals as goal

pub returns : goal.returns
returns c = c.expiry.ensures ∙ sym (get-content c.args.self.now.nodes c.args.slot)
