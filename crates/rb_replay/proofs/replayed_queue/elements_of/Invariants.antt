-- The elements so far are filed.
use Rattle.std.proofs.Common.{take}
use Rattle.rb_queue.specs.Bag.{bag_from}
use Rattle.rb_replay.specs.ReplayedQueue.{HasElements}
use Rattle.rb_replay.proofs.replayed_queue.elements_of.Given as goal

abbrev pub invariant-loop-element : goal.invariant-loop-element
invariant-loop-element l = HasElements (bag_from (take l.element-index l.elements)) l.end l.map
