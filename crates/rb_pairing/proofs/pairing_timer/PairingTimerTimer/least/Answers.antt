-- The root is an entry of least expiry.
use Rattle.std.proofs.Common.{sym, subst}
use Rattle.rb_timer.specs.Content.{IsLeastSlot}
use Rattle.rb_timer.specs.Slots.{content_of}
use Rattle.rb_pairing.specs.Nodes.{expiries}
use Rattle.rb_pairing.proofs.Contents.{content_empty-no_root, root_is_least}
use Rattle.rb_pairing.proofs.pairing_timer.PairingTimerTimer.least.Goals as goal

pub returns-in_err-root : goal.returns-in_err-root
returns-in_err-root c =
    let timer = c.args.self.now in
    rw c.from_residual.ensures (content_empty-no_root timer.nodes timer.root timer.tree c.in_err-root.was)

pub moment-requires : goal.moment-requires
moment-requires c = (c.args.self.now.tree.top c.in_ok-root.root c.in_ok-root.was).present

pub returns : goal.returns
returns c =
    let timer = c.args.self.now in
    let root = c.in_ok-root.root in
    subst (IsLeastSlot (content_of (expiries timer.nodes)) root) (sym c.moment.ensures)
    (root_is_least timer.nodes timer.root timer.tree root c.in_ok-root.was)
