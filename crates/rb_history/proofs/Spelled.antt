-- Words that are numbers.
use Rattle.std.proofs.Common.{◌≡◌, ℕ, ◌<◌, ◌^◌, List, [], ◌∷◌, ◌++◌, length, codes, true, arith, Option, Some, None, decimal, sym, ap, ◌∙◌}
use Rattle.std.proofs.lemmas.Fmt.{decimal_injective}
use Rattle.std.specs.Prelude.{is_some}
use denote.Ref.{Bor}
use Rattle.rb_protocol.specs.Words.{words_behind}
use Rattle.rb_protocol.proofs.Cuts.{words_behind_some}
use Rattle.rb_history.specs.EventText.{given_words, first_words}
use Rattle.rb_history.specs.declared.version.Version.{Version}
use Rattle.rb_history.specs.declared.version.Version.TheVariants.{One, Two, Three}

-- behind the first word stand the same words
pub behind_word : (words behind others : List (List ℕ)) (word other : List ℕ) → words ≡ word ∷ behind
    → words ≡ other ∷ others → behind ≡ others
behind_word words behind others word other one is = cc

-- words with others behind the first are not one word
pub not_alone : (words : List (List ℕ)) (word other : List ℕ) (rest : Option (Bor (List ℕ))) → is_some rest ≡ true
    → words ≡ word ∷ words_behind rest → words ≡ other ∷ [] → ⊥
not_alone words word other rest more is alone = omega (arith, words_behind_some rest more, ap length (sym is ∙ alone))

pub not_given : (words : List (List ℕ)) (word : List ℕ) (rest : Option (Bor (List ℕ))) (given : Option ℕ) → is_some rest ≡ true
    → words ≡ word ∷ words_behind rest → words ≡ given_words given → ⊥
not_given words word rest None more is alone = not_alone words word (codes "none") rest more is alone
not_given words word rest (Some id) more is alone = not_alone words word (decimal id) rest more is alone

-- one word is one number
pub same_number : (words others behind : List (List ℕ)) (one other : ℕ) → one < 2 ^ 64 → other < 2 ^ 64
    → words ≡ decimal one ∷ others → words ≡ decimal other ∷ behind → one ≡ other
same_number words others behind one other small low is named =
    let digits : decimal one ≡ decimal other = cc in
    decimal_injective one other small low digits

-- behind the same expiry stand the same words
pub behind_first : (version : Version) (one other : ℕ) (words behind : List (List ℕ))
    → first_words version one ++ words ≡ first_words version other ++ behind → words ≡ behind
behind_first One one other words behind is = is
behind_first Two one other words behind is = is
behind_first Three one other words behind is = cc
