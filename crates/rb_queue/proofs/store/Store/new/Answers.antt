-- Slab, timer and directory begin empty, so they agree.
use Rattle.std.proofs.Common.{ap}
use Rattle.std.specs.Prelude.{nat_eq}
use Rattle.std.specs.Map.{lookup}
use Rattle.rb_queue.proofs.Stores.{sound_empty}
use Rattle.rb_queue.proofs.store.Store.new.Goals as goal

pub invariant_of-result : goal.invariant_of-result
invariant_of-result g c = sound_empty _ _ _ c.new.ensures.empty c.new-2.ensures.content (λ id. ap (lookup (nat_eq id)) c.new-3.ensures.empty)
