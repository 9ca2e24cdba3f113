-- How a payload lies in its buffer. No public clause cites this module.
use Rattle.std.specs.Prelude.{◌≡◌, ℕ, ◌-◌, List, ◌++◌, length, take, replicate}
use Rattle.std.proofs.Common.{sym, ap, ◌∙◌}
use Rattle.rb_delayed.specs.Payload.{IsPayload}
use Rattle.rb_delayed.specs.declared.payload.TheConstants.{MOST_PAYLOAD_BYTES}

-- the first bytes are the payload, and zeros follow it
pub record IsPadded (buffer : List ℕ) (len : ℕ) : Type 0 where
  pub payload : IsPayload (take len buffer)
  pub counted : len ≡ length (take len buffer)
  pub zeros : buffer ≡ take len buffer ++ replicate (MOST_PAYLOAD_BYTES - len) 0

-- the payload determines the buffer and the length
pub record Unpadded (buffer : List ℕ) (len : ℕ) : Type 0 where
  pub padded : take len buffer ++ replicate (MOST_PAYLOAD_BYTES - length (take len buffer)) 0 ≡ buffer
  pub counted : length (take len buffer) ≡ len

-- a padded buffer is determined by its payload
pub unpadded : (buffer : List ℕ) (len : ℕ) → IsPadded buffer len → Unpadded buffer len
unpadded buffer len h = record {
  padded = ap (λ n. take len buffer ++ replicate (MOST_PAYLOAD_BYTES - n) 0) (sym h.counted) ∙ sym h.zeros;
  counted = sym h.counted;
}
