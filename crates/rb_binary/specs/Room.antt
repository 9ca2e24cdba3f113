-- The room of a binary timer: how many slots its places are for.
use Rattle.std.specs.Prelude.{ℕ, ◌<◌, List, length, Option, IsSome, option_map}
use Rattle.std.specs.FinMap as map
use Rattle.std.proofs.Common.{subst}
use Rattle.std.proofs.lemmas.List.{length-map}
use Rattle.rb_timer.specs.Slots.{content_of, in_range_of_content}
use Rattle.rb_binary.specs.declared.heap.Entry.{Entry}
use Rattle.rb_binary.specs.Layout.{expiry_at, expiries}

-- a slot that has an entry is in the room
pub in_room_of_content : (heap : List Entry) (places : List (Option ℕ)) (slot : ℕ)
    → IsSome (map.get (content_of (expiries heap places)) slot) → slot < length places
in_room_of_content heap places slot present =
    subst (λ room. slot < room) (length-map places (option_map (expiry_at heap)))
    (in_range_of_content (expiries heap places) slot present)
