-- What is left is filed with some content of a timer, and each turn takes one id out.
use Rattle.indexmap.specs.IndexMap.{index_map_len}
use Rattle.rb_timer.specs.Content.{Content}
use Rattle.rb_queue.specs.Filing.{IsFiled}
use Rattle.rb_queue.proofs.store.discard_all.Given as goal

abbrev pub invariant-loop-slot : goal.invariant-loop-slot
invariant-loop-slot l = (content : Content) × IsFiled l.elements content l.directory

-- how many ids are left
abbrev pub decreases-loop-slot : goal.decreases-loop-slot
decreases-loop-slot l = index_map_len l.directory
