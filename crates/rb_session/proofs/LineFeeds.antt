-- Line feeds in lists of bytes, as a search for the first of them finds them.
use Rattle.std.proofs.Common.{◌≡◌, ◌≢◌, ℕ, zero, suc, ◌<◌, List, [], ◌∷◌, length, take, get_or, arith, Option, Some}
use Rattle.std.proofs.Common.{None}
use Rattle.std.proofs.lemmas.Bool.{eq-eqb, eqb-true}
use Rattle.std.proofs.lemmas.List.Elements.{All-nil, All-cons}
use Rattle.std.specs.Prelude.{MatchOption}
use Rattle.memchr.specs.Find.{Nowhere, Passes, IsFirstByte, is_byte}
use Rattle.rb_protocol.specs.Line.{HasNoLineFeed}
use Rattle.rb_protocol.specs.declared.format.TheConstants.{LINE_FEED}

-- another byte than a line feed
abbrev IsOther : ℕ → Type 0
IsOther byte = byte ≢ LINE_FEED

-- the first bytes have no line feed, where none is found among them
none_among : (bytes : List ℕ) (n : ℕ) → Nowhere (Passes (is_byte LINE_FEED) bytes) 0 n → HasNoLineFeed (take n bytes)
none_among bytes zero none = All-nil IsOther
none_among [] (suc n) none = All-nil IsOther
none_among (byte ∷ rest) (suc n) none =
    All-cons IsOther byte (take n rest) (λ is. none 0 (omega arith) (omega arith) (eq-eqb byte LINE_FEED is))
    (none_among rest n (λ k low below. none (suc k) (omega arith) (omega arith)))

-- nor has a text where none is found in it
none_in : (bytes : List ℕ) → Nowhere (Passes (is_byte LINE_FEED) bytes) 0 (length bytes) → HasNoLineFeed bytes
none_in [] none = All-nil IsOther
none_in (byte ∷ rest) none =
    All-cons IsOther byte rest (λ is. none 0 (omega arith) (omega arith) (eq-eqb byte LINE_FEED is))
    (none_in rest (λ k low below. none (suc k) (omega arith) (omega arith)))

-- what a search for a line feed tells of the bytes
pub first_feed : (held : List ℕ) (found : Option ℕ) → IsFirstByte (is_byte LINE_FEED) held found
    → MatchOption found (HasNoLineFeed held) (λ len. (len < length held) × HasNoLineFeed (take len held)
    × (get_or held len 0 ≡ LINE_FEED))
first_feed held None none = none_in held none
first_feed held (Some len) (first, feed) = (first.high, none_among held len first.before, eqb-true _ LINE_FEED feed)
