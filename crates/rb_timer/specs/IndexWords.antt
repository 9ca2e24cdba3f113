-- The word of an optional index.
use Rattle.std.specs.Prelude.{◌≡◌, ℕ, ◌≤◌, Option, Some, None, cond, ltb}
use Rattle.std.specs.Option.{unwrap_or}
use Rattle.std.proofs.Common.{ap, ◌∙◌, arith, ⊎_elim}
use Rattle.std.proofs.lemmas.Bool.{cases_lt, lt-ltb, le-ltb}
use Rattle.rb_timer.specs.declared.optional_index.TheConstants.{NONE}
use Rattle.rb_timer.specs.declared.optional_index.OptionalIndex.TheInside.{Inside}

-- the index that a word stands for, if it stands for one
abbrev pub option_of : Inside → Option ℕ
option_of inside = cond (ltb inside.word NONE) (Some inside.word) None

-- each option has one word
abbrev pub IsIndexWord : Inside → Type 0
IsIndexWord inside = inside.word ≤ NONE

-- the word of an index, or of none
abbrev pub word_of : Option ℕ → Inside
word_of index = record { word = unwrap_or index NONE }

word-option : (word : ℕ) → word ≤ NONE → unwrap_or (cond (ltb word NONE) (Some word) None) NONE ≡ word
word-option word within =
    ⊎_elim (λ low. ap (λ b. unwrap_or (cond b (Some word) None) NONE) (lt-ltb word NONE low))
    (λ high. let last : NONE ≡ word = omega arith in
    ap (λ b. unwrap_or (cond b (Some word) None) NONE) (le-ltb word NONE high) ∙ last)
    (cases_lt word NONE)

-- a word is that of the option that it stands for
pub word_of-option : (inside : Inside) → IsIndexWord inside → word_of (option_of inside) ≡ inside
word_of-option inside is = λ i. record { word = word-option inside.word is i }
