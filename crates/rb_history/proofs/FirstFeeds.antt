-- Where a text is cut at its first line feed.
use Rattle.std.proofs.Common.{◌≡◌, ◌≢◌, ℕ, suc, ◌+◌, ◌<◌, ◌≤◌, ◌==◌, true, false, List, ◌∷◌, ◌++◌, length, take, drop, get_or, Some, None, sym, ap, ◌∙◌, arith, add-one}
use Rattle.std.proofs.lemmas.Bool.Decides.{nat_tests}
use Rattle.std.proofs.lemmas.List.{take-append-drop, get_or-take, length-take}
use Rattle.std.proofs.lemmas.List.Quantifiers.{position-Some}
use Rattle.std.proofs.lemmas.List.Sums.{fails_before_first}
use Rattle.std.proofs.Math.Seq.{drop-cons}
use Rattle.std.specs.List.{position_or_len}
use Rattle.rb_protocol.proofs.Cuts.{at_end}
use Rattle.rb_protocol.specs.declared.format.TheConstants.{LINE_FEED}
use Rattle.rb_protocol.specs.Line.{HasNoLineFeed}
use Rattle.rb_history.specs.Feeds.{first_feed}

is_feed : (byte : ℕ) → (byte == LINE_FEED) ≡ true → byte ≡ LINE_FEED
is_feed byte is = grind (arith, nat_tests)

is_none : (byte : ℕ) → (byte == LINE_FEED) ≡ false → byte ≢ LINE_FEED
is_none byte other is =
    let feed : (byte == LINE_FEED) ≡ true = grind (arith, nat_tests) in absurd (cc)

-- the first line, its end, and what stands behind
pub cut_at : (text : List ℕ) (place : ℕ) → first_feed text ≡ Some place
    → text ≡ take place text ++ (LINE_FEED ∷ drop (place + 1) text)
cut_at text place is =
    let found = position-Some (λ byte. byte == LINE_FEED) text place 0 is in
    let feed : get_or text place 0 ≡ LINE_FEED = is_feed _ found.1 in
    sym (take-append-drop place text)
    ∙ ap (λ t. take place text ++ t) (drop-cons text place 0 found.0 ∙ ap (λ byte. byte ∷ drop (suc place) text) feed)
    ∙ ap (λ n. take place text ++ (LINE_FEED ∷ drop n text)) (sym (add-one place))

pub front_lacks : (text : List ℕ) (place : ℕ) → first_feed text ≡ Some place → HasNoLineFeed (take place text)
front_lacks text place is = λ k d below.
    let found = position-Some (λ byte. byte == LINE_FEED) text place d is in
    let within : k < place = omega (arith, below, found.0, length-take place text) in
    is_none _ (ap (λ byte. byte == LINE_FEED) (get_or-take place text k d within) ∙ found.2 k within)

pub whole_lacks : (text : List ℕ) → first_feed text ≡ None → HasNoLineFeed text
whole_lacks text none = λ k d below.
    let all : length text ≤ position_or_len (λ byte. byte == LINE_FEED) text = at_end _ _ none in
    is_none _ (fails_before_first (λ byte. byte == LINE_FEED) text k d (omega arith))
