-- Which bytes are a payload.
use Rattle.std.specs.Prelude.{◌≡◌, ℕ, ◌<◌, ◌≤◌, ◌&&◌, Bool, not, nat_le, List, length, Option, None, position}
use Rattle.rb_delayed.specs.declared.payload.TheConstants.{MOST_PAYLOAD_BYTES, LEAST_PAYLOAD_BYTE}
use Rattle.rb_delayed.specs.declared.payload.TheConstants.{GREATEST_PAYLOAD_BYTE}

-- the byte is a visible ASCII character, from `!` to `~`
abbrev pub is_visible : ℕ → Bool
is_visible byte = nat_le LEAST_PAYLOAD_BYTE byte && nat_le byte GREATEST_PAYLOAD_BYTE

-- the place of the first byte that is not visible, if there is one
abbrev pub first_bad : List ℕ → Option ℕ
first_bad bytes = position (λ byte. not (is_visible byte)) bytes

-- these bytes are a payload
pub record IsPayload (bytes : List ℕ) : Type 0 where
  pub not_empty : 0 < length bytes
  pub not_long : length bytes ≤ MOST_PAYLOAD_BYTES
  pub visible : first_bad bytes ≡ None
