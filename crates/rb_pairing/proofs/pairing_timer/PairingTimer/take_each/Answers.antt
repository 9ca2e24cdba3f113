-- Each entry that leaves is one less, and where there is no root there is none.
use Rattle.std.proofs.Common.{is_some, sym, ap, ◌∙◌, arith}
use Rattle.rb_pairing.proofs.Contents.{get-content, content_empty-no_root, count-less}
use Rattle.rb_pairing.proofs.LinkTests.{none_of_or}
use Rattle.rb_pairing.proofs.pairing_timer.PairingTimer.take_each.Goals as goal

pub remove-requires : goal.remove-requires
remove-requires c =
    ap is_some (get-content c.loop-slot.self.nodes c.leaf_under-leaf.result) ∙ c.leaf_under-leaf.ensures

pub loop-slot-smaller : goal.loop-slot-smaller
loop-slot-smaller c =
    omega (
      arith,
      c.loop-slot.self.counted,
      c.remove.new.self.counted,
      count-less c.loop-slot.self.nodes c.remove.new.self.nodes c.leaf_under-leaf.result
          c.leaf_under-leaf.ensures c.remove.ensures.content,
    )

pub returns-clause-content : goal.returns-clause-content
returns-clause-content c =
    content_empty-no_root c.loop-slot.self.nodes c.loop-slot.self.root c.loop-slot.self.tree
    (none_of_or c.loop-slot.self.newest c.loop-slot.self.root (sym c.or.ensures ∙ c.in_default.is))
