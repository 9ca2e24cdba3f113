-- The highest bit in which two moments differ, and the level of the digit that it stands in.
use Rattle.std.proofs.Common.{◌≡◌, ℕ, ◌+◌, ◌-◌, ◌*◌, ◌/◌, ◌%◌, ◌^◌, ◌<◌, ◌≤◌, ◌≢◌, sym, ap, ◌∙◌, arith}
use Rattle.std.specs.Int.{bit_at}
use Rattle.std.specs.Int.RustNames.{bit_xor}
use Rattle.std.proofs.lemmas.Nat.{shr-shr, pow-add, pow_pos, le-div, div_below}
use Rattle.std.proofs.lemmas.Nat.Bits.{bit_at_xor, bit_at_above, bit_at-lt, bit_at-zero, same_from_bits}
use Rattle.rb_wheel.specs.Cells.{units, digit, above, IsCellOf}
use Rattle.rb_wheel.specs.declared.cells.TheConstants.{DIGITS, DIGIT_BITS}

-- a bit of a number that was shifted is a higher bit
bit_at_shr : (n j i : ℕ) → bit_at (n / 2 ^ j) i ≡ bit_at n (j + i)
bit_at_shr n j i = ap (λ m. m % 2) (shr-shr n j i)

-- two numbers that are the same from one bit up have the same bits there
same_bit : (a b j k : ℕ) → j ≤ k → a / 2 ^ j ≡ b / 2 ^ j → bit_at a k ≡ bit_at b k
same_bit a b j k low same =
    let there : j + (k - j) ≡ k = omega arith in
    ap (bit_at a) (sym there) ∙ sym (bit_at_shr a j (k - j)) ∙ ap (λ n. bit_at n (k - j)) same
    ∙ bit_at_shr b j (k - j) ∙ ap (bit_at b) there

bits_agree : (x y : ℕ) → x < 2 → y < 2 → (x + y) % 2 ≡ 0 → x ≡ y
bits_agree x y low high even = omega arith

bits_differ : (x y : ℕ) → x ≡ y → (x + y) % 2 ≢ 1
bits_differ x y same odd = omega arith

quotient_one : (n p : ℕ) → 0 < p → p ≤ n → n < 2 * p → n / p ≡ 1
quotient_one n p some low high =
    omega (arith, le-div 1 n p some (omega arith), div_below n p 2 some high)

module _ (a b bit : ℕ) (low : 2 ^ bit ≤ bit_xor a b) (high : bit_xor a b < 2 * 2 ^ bit) where
  same_higher : (k : ℕ) → bit < k → bit_at a k ≡ bit_at b k
  same_higher k up =
      let next : 2 ^ (1 + bit) ≡ 2 * 2 ^ bit = pow-add 2 1 bit in
      bits_agree (bit_at a k) (bit_at b k) (bit_at-lt a k) (bit_at-lt b k)
      (sym (bit_at_xor a b k) ∙ bit_at_above (bit_xor a b) (1 + bit) k (omega arith) (omega arith))

  same_from : (j : ℕ) → bit < j → a / 2 ^ j ≡ b / 2 ^ j
  same_from j up =
      same_from_bits (a / 2 ^ j) (b / 2 ^ j) (λ i. bit_at_shr a j i ∙ same_higher (j + i) (omega arith) ∙ sym (bit_at_shr b j i))

  differs_from : (j : ℕ) → j ≤ bit → a / 2 ^ j ≢ b / 2 ^ j
  differs_from j down same =
      bits_differ (bit_at a bit) (bit_at b bit) (same_bit a b j bit down same)
      (sym (bit_at_xor a b bit) ∙ ap (λ n. n % 2) (quotient_one (bit_xor a b) (2 ^ bit) (pow_pos bit) low high))

-- the digits above a level, as the units of the next
pub above_is_units : (level moment : ℕ) → above level moment ≡ units (level + 1) moment
above_is_units level moment =
    let next : DIGIT_BITS * level + DIGIT_BITS ≡ DIGIT_BITS * (level + 1) = omega arith in
    shr-shr moment (DIGIT_BITS * level) DIGIT_BITS ∙ ap (λ k. moment / 2 ^ k) next

same_parts : (x y : ℕ) → x / DIGITS ≡ y / DIGITS → x % DIGITS ≡ y % DIGITS → x ≡ y
same_parts x y = omega arith

module _ (base expiry bit : ℕ) (low : 2 ^ bit ≤ bit_xor base expiry)
    (high : bit_xor base expiry < 2 * 2 ^ bit) where
  same_above_bit : above (bit / DIGIT_BITS) expiry ≡ above (bit / DIGIT_BITS) base
  same_above_bit =
      above_is_units (bit / DIGIT_BITS) expiry
      ∙ sym (same_from base expiry bit low high (DIGIT_BITS * (bit / DIGIT_BITS + 1)) (omega arith))
      ∙ sym (above_is_units (bit / DIGIT_BITS) base)

  -- the level of the highest bit that differs is the highest on which the digits differ
  pub IsCellOf-from_bit : (cell : ℕ) → cell / DIGITS ≡ bit / DIGIT_BITS → cell % DIGITS ≡ digit (bit / DIGIT_BITS) expiry
      → IsCellOf base expiry cell
  IsCellOf-from_bit cell level at_digit = record {
    same_digit = ap (λ l. digit l expiry) level ∙ sym at_digit;
    same_above =
        ap (λ l. above l expiry) level ∙ same_above_bit ∙ sym (ap (λ l. above l base) level);
    differs = λ some same.
        differs_from base expiry bit low high (DIGIT_BITS * (bit / DIGIT_BITS)) (omega arith)
        (same_parts (units (bit / DIGIT_BITS) base) (units (bit / DIGIT_BITS) expiry) (sym same_above_bit)
        (sym (sym (ap (λ l. digit l expiry) level) ∙ same ∙ ap (λ l. digit l base) level)));
  }

-- where no bit differs, the cell is on the lowest level
pub IsCellOf-from_none : (base expiry cell : ℕ) → bit_xor base expiry ≡ 0 → cell / DIGITS ≡ 0
    → cell % DIGITS ≡ digit 0 expiry → IsCellOf base expiry cell
IsCellOf-from_none base expiry cell none level at_digit =
    let same : expiry ≡ base = same_from_bits expiry base (λ i. sym (bits_agree (bit_at base i) (bit_at expiry i) (bit_at-lt base i) (bit_at-lt expiry i)
    (sym (bit_at_xor base expiry i) ∙ ap (λ n. bit_at n i) none ∙ bit_at-zero i))) in
    record {
      same_digit = ap (λ l. digit l expiry) level ∙ sym at_digit;
      same_above = ap (above (cell / DIGITS)) same;
      differs = λ some. absurd (omega arith);
    }
