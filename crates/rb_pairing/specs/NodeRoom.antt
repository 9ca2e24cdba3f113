-- The room of a pairing timer: how many slots its nodes are for.
use Rattle.std.specs.Prelude.{ℕ, ◌<◌, List, length, IsSome}
use Rattle.std.specs.FinMap as map
use Rattle.std.proofs.Common.{subst}
use Rattle.std.proofs.lemmas.List.{length-map}
use Rattle.rb_timer.specs.Slots.{content_of, in_range_of_content}
use Rattle.rb_pairing.specs.declared.node.Node.{Node}
use Rattle.rb_pairing.specs.Nodes.{expiries}

-- a slot that has an entry is in the room
pub in_nodes_of_content : (nodes : List Node) (slot : ℕ)
    → IsSome (map.get (content_of (expiries nodes)) slot) → slot < length nodes
in_nodes_of_content nodes slot present =
    subst (λ room. slot < room) (length-map nodes (λ (node : Node). node.expiry))
    (in_range_of_content (expiries nodes) slot present)
