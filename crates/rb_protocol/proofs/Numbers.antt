-- Which words are numbers, in the words of their digits.
use Rattle.std.proofs.Common.{◌≡◌, ℕ, zero, suc, ◌+◌, ◌-◌, ◌*◌, ◌<◌, ◌≤◌, ◌^◌, List, [], ◌∷◌, length, take, get_or, sym, ap, subst, ◌∙◌, arith, lit<, lit≤, decimal, Option, Some, None, IfSome, IfNone}
use Rattle.std.proofs.lemmas.Fmt.{decimal_digit, digits_decimal, digits_value-decimal, decimal_nonempty, first_decimal, decimal-digits_value}
use Rattle.std.proofs.lemmas.Str.Parse.{IsNumeralModel, numerals_by_value, tells_digits, digits_value-take-le}
use Rattle.std.proofs.lemmas.Str.{digit_value_digit}
use Rattle.std.proofs.lemmas.Int.Digits.{digits_more, digits_value_more}
use Rattle.std.specs.Char.{digit_value}
use Rattle.std.specs.Int.{IsInRange}
use Rattle.std.specs.Str.Parse.{AllDigits, digits_value}
use Rattle.rb_protocol.specs.Number.{IsNumber}

numerals : IsNumeralModel (AllDigits 10) (digits_value 10)
numerals = numerals_by_value (AllDigits 10) tells_digits

-- a number has a digit
pub number_filled : (word : List ℕ) (number : ℕ) → IsNumber word number → 0 < length word
number_filled word number h = subst (λ w. 0 < length w) (sym h.0) (decimal_nonempty number h.1)

-- and no zero in front of another
decimal_start : (number : ℕ) → number < 2 ^ 64
    → get_or (decimal number) 0 0 ≡ 48 → length (decimal number) ≤ 1
decimal_start zero small e =
    let digit : decimal 0 ≡ 48 ∷ [] = decimal_digit 0 (lit< tt) in
    omega (arith, ap length digit)
decimal_start (suc n) small e =
    let over : 48 < get_or (decimal (suc n)) 0 0 = first_decimal (suc n) (omega arith) small in
    absurd (omega arith)

pub number_start : (word : List ℕ) (number : ℕ) → IsNumber word number
    → get_or word 0 0 ≡ 48 → length word ≤ 1
number_start word number h =
    subst (λ w. get_or w 0 0 ≡ 48 → length w ≤ 1) (sym h.0) (decimal_start number h.1)

-- it has digits alone, whose value it is
pub number_digits : (word : List ℕ) (number : ℕ) → IsNumber word number → AllDigits 10 word
number_digits word number h = subst (AllDigits 10) (sym h.0) (digits_decimal numerals number h.1)

pub number_value : (word : List ℕ) (number : ℕ) → IsNumber word number
    → digits_value 10 word ≡ number
number_value word number h = ap (digits_value 10) h.0 ∙ digits_value-decimal numerals number h.1

-- digits with no zero in front are the number that is their value
pub digits_number : (word : List ℕ) (value : ℕ) → AllDigits 10 word → 0 < length word
    → (get_or word 0 0 ≡ 48 → length word ≤ 1) → value ≡ digits_value 10 word → value < 2 ^ 64
    → IsNumber word value
digits_number word value digits some start same small =
    let few : get_or word 0 0 ≡ 48 → length word ≡ 1 = λ e. one_byte word some (start e) in
    let below : digits_value 10 word < 2 ^ 64 = omega arith in
    let text : decimal (digits_value 10 word) ≡ word =
    decimal-digits_value numerals word digits some few below in
    (sym text ∙ ap decimal (sym same), small)
  where
    one_byte : (word : List ℕ) → 0 < length word → length word ≤ 1 → length word ≡ 1
    one_byte word some few = omega arith

-- one digit more
pub value_more : (digits : List ℕ) (i value : ℕ) → i < length digits
    → IsInRange 48 57 (get_or digits i 0) → value ≡ digits_value 10 (take i digits)
    → value * 10 + (get_or digits i 0 - 48) ≡ digits_value 10 (take (i + 1) digits)
value_more digits i value within range same =
    let digit : digit_value (get_or digits i 0) + 48 ≡ get_or digits i 0 = digit_value_digit _ range in
    omega (arith, digits_value_more 10 digits i within)

pub digits_one_more : (digits : List ℕ) (i : ℕ) → i < length digits
    → IsInRange 48 57 (get_or digits i 0) → AllDigits 10 (take i digits)
    → AllDigits 10 (take (i + 1) digits)
digits_one_more digits i within range all =
    let digit : digit_value (get_or digits i 0) + 48 ≡ get_or digits i 0 = digit_value_digit _ range in
    digits_more 10 digits i within all (omega arith)

-- a front part that is too large makes the whole too large
pub too_large : (digits : List ℕ) (i value : ℕ) → i < length digits
    → IsInRange 48 57 (get_or digits i 0) → value ≡ digits_value 10 (take i digits)
    → 2 ^ 64 ≤ value * 10 + (get_or digits i 0 - 48) → 2 ^ 64 ≤ digits_value 10 digits
too_large digits i value within range same large =
    let more = value_more digits i value within range same in
    omega (arith, more, digits_value-take-le 10 digits (i + 1) (lit≤ tt))

-- what is read of digits with no zero in front is a number
pub number_read : (word : List ℕ) (r : Option ℕ) → 0 < length word
    → ¬ ((get_or word 0 0 ≡ 48) × (1 < length word)) → IfSome r (λ _. AllDigits 10 word)
    → IfSome r (λ value. value ≡ digits_value 10 word) → IfSome r (λ value. value < 2 ^ 64)
    → IfSome r (IsNumber word)
number_read word None some no_zero digits same small = tt
number_read word (Some value) some no_zero digits same small =
    let start : get_or word 0 0 ≡ 48 → length word ≤ 1 = λ zero.
    let over : 1 < length word → ⊥ = λ more. no_zero (zero, more) in omega arith in
    digits_number word value digits some start same small

-- and where nothing is read there is none
pub number_unread : (word : List ℕ) (r : Option ℕ)
    → IfNone r (AllDigits 10 word → 2 ^ 64 ≤ digits_value 10 word)
    → IfNone r ((number : ℕ) → IsNumber word number → ⊥)
number_unread word (Some value) none = tt
number_unread word None none = λ number h.
    omega (arith, none (number_digits word number h), number_value word number h, h.1)
