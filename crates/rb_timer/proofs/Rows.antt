-- What a read of a row of slots says of its content.
use Rattle.std.proofs.Common.{◌≡◌, ◌∙◌, sym, ℕ, List, Option, None, IsSome, get_or}
use Rattle.std.specs.FinMap as map
use Rattle.std.proofs.lemmas.List.{get_or_default}
use Rattle.rb_timer.specs.Slots.{content_of, get-content_of, in_range_of_content}

-- what is read at a slot that has an entry is that entry's expiry
pub get-content_of_read : (expiries : List (Option ℕ)) (slot : ℕ) (read : Option ℕ) → IsSome (map.get (content_of expiries) slot) → read ≡ get_or expiries slot read → map.get (content_of expiries) slot ≡ read
get-content_of_read expiries slot read present is =
    get-content_of expiries slot
    ∙ get_or_default expiries slot None read (in_range_of_content expiries slot present)
    ∙ sym is
