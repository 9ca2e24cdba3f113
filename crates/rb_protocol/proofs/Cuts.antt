-- Where a text is cut at its first space.
use Rattle.std.proofs.Common.{◌≡◌, ℕ, ◌+◌, ◌<◌, ◌≤◌, ◌==◌, true, false, nat_lt, is_some, cond, List, [], ◌∷◌, length, take, drop, Option, Some, None, ap, ◌∙◌, arith}
use Rattle.std.proofs.lemmas.Bool.Decides.{nat_tests}
use Rattle.std.proofs.lemmas.List.Splits.{slice_split_first, slice_split_none, length-slice_split}
use Rattle.std.proofs.lemmas.List.Sums.{fails_before_first}
use denote.Ref.{Bor}
use Rattle.std.specs.List.{position_or_len, All}
use Rattle.rb_protocol.specs.Line.{words_of}
use Rattle.rb_protocol.specs.Words.{first_space, words_behind, AreFew}
use Rattle.rb_protocol.specs.declared.format.TheConstants.{SPACE}

-- how many bytes stand before the first space
abbrev space_place : List ℕ → ℕ
space_place text = position_or_len (λ byte. byte == SPACE) text

-- a place that is found is the one that is looked for, and within the text
same_place : (n len place : ℕ) → cond (nat_lt n len) (Some n) None ≡ Some place → n ≡ place
same_place n len place e = grind (arith, nat_tests)

within : (n len place : ℕ) → cond (nat_lt n len) (Some n) None ≡ Some place → n < len
within n len place e = grind (arith, nat_tests)

pub at_end : (n len : ℕ) → cond (nat_lt n len) (Some n) None ≡ None → len ≤ n
at_end n len e = grind (arith, nat_tests)

-- the first word stands before the first space, and the others behind it
pub words_at : (text : List ℕ) (place : ℕ) → first_space text ≡ Some place
    → words_of text ≡ take place text ∷ words_of (drop (place + 1) text)
words_at text place is =
    let place_is : space_place text ≡ place = same_place _ _ place is in
    slice_split_first (λ byte. byte == SPACE) text 0 (within _ _ place is)
    ∙ ap (λ n. take n text ∷ words_of (drop (n + 1) text)) place_is

no_space : (text : List ℕ) → first_space text ≡ None → All (λ byte. (byte == SPACE) ≡ false) text
no_space text none = λ k d below.
    let all : length text ≤ space_place text = at_end _ _ none in
    fails_before_first (λ byte. byte == SPACE) text k d (omega arith)

-- a text with no space is one word
pub words_alone : (text : List ℕ) → first_space text ≡ None → words_of text ≡ text ∷ []
words_alone text none = slice_split_none (λ byte. byte == SPACE) text (no_space text none)

-- a text has at least one word
pub words_behind_some : (rest : Option (Bor (List ℕ))) → is_some rest ≡ true
    → 0 < length (words_behind rest)
words_behind_some None h = absurd (cc)
words_behind_some (Some text) h =
    omega (arith, length-slice_split (λ byte. byte == SPACE) text.now)

-- of few words the first has a byte, and so has the second
pub first_filled : (word : List ℕ) (others : List (List ℕ))
    → AreFew (word ∷ others) → 0 < length word
first_filled word others h = h.no_gap 0 [] (omega arith)

pub second_filled : (word other : List ℕ) (others : List (List ℕ))
    → AreFew (word ∷ other ∷ others) → 0 < length other
second_filled word other others h = h.no_gap 1 [] (omega arith)
