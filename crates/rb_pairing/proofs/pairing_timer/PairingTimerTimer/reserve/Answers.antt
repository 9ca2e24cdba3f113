-- The nodes stay, with vacant slots behind them.
use Rattle.std.proofs.Common.{◌∙◌, sym, ap}
use Rattle.std.specs.Prelude.{count_by, is_some}
use Rattle.rb_pairing.specs.Nodes.{expiries}
use Rattle.rb_pairing.proofs.Rooms.{more_tree, more_entry, count-more, content-more}
use Rattle.rb_pairing.proofs.pairing_timer.PairingTimerTimer.reserve.Goals as goal

pub invariant_of-self-clause-tree : goal.invariant_of-self-clause-tree
invariant_of-self-clause-tree c = rw c.reserve.ensures (more_tree c.args.self.now.nodes _ c.args.self.now.root c.args.self.now.tree)

pub invariant_of-self-clause-newest_stands : goal.invariant_of-self-clause-newest_stands
invariant_of-self-clause-newest_stands c =
    rw c.reserve.ensures (more_entry c.args.self.now.nodes _ c.args.self.now.newest c.args.self.now.newest_stands)

pub invariant_of-self-clause-counted : goal.invariant_of-self-clause-counted
invariant_of-self-clause-counted c =
    c.args.self.now.counted ∙ sym (ap (λ nodes. count_by is_some (expiries nodes)) c.reserve.ensures ∙ count-more c.args.self.now.nodes _)

pub returns-clause-content : goal.returns-clause-content
returns-clause-content c = rw c.reserve.ensures (content-more c.args.self.now.nodes _)
