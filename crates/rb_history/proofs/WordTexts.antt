-- A line has its words in one way, and a text its lines.
use Rattle.std.proofs.Common.{◌≡◌, ◌≢◌, ℕ, ◌<◌, ◌≤◌, ◌^◌, ◌==◌, true, false, not, nat_le, List, [], ◌∷◌, ◌++◌, length, get_or, All, decimal, refl, sym, ap, subst, ◌∙◌, arith, append_assoc, append-nil, length-append}
use Rattle.std.proofs.lemmas.Bool.Decides.{nat_tests}
use Rattle.std.proofs.lemmas.Grind.{get_or_default_zero}
use Rattle.std.proofs.lemmas.List.Elements.{All-cons, All-head, All-tail, All-append}
use Rattle.std.proofs.lemmas.List.Splits.{slice_split_at, slice_split_none}
use Rattle.std.proofs.lemmas.List.Sums.{fails_before_first, AllPass-from_list_all}
use Rattle.std.proofs.lemmas.Str.Parse.{digit_at}
use Rattle.std.specs.Int.{IsInRange}
use Rattle.std.specs.List.{list_all}
use Rattle.rb_delayed.specs.Payload.{IsPayload, is_visible}
use Rattle.rb_delayed.specs.declared.payload.TheConstants.{LEAST_PAYLOAD_BYTE}
use Rattle.rb_protocol.proofs.Cuts.{at_end}
use Rattle.rb_protocol.proofs.Numbers.{number_digits}
use Rattle.rb_protocol.specs.Line.{spaced, words_of, HasNoLineFeed}
use Rattle.rb_protocol.specs.declared.format.TheConstants.{SPACE, LINE_FEED}
use Rattle.rb_history.specs.HistoryText.{line_text, lines_text}
use Rattle.rb_history.proofs.Parts.{head_of, tail_of}

-- each byte of the word is a visible character
abbrev pub IsPlain : List ℕ → Type 0
IsPlain word = All (λ byte. LEAST_PAYLOAD_BYTE ≤ byte) word

abbrev pub ArePlain : List (List ℕ) → Type 0
ArePlain [] = Unit {0}
ArePlain (word ∷ words) = IsPlain word × ArePlain words

-- a line has a word, and each of its words is plain
abbrev pub IsLine : List (List ℕ) → Type 0
IsLine [] = ⊥
IsLine (word ∷ words) = IsPlain word × ArePlain words

abbrev pub AreLines : List (List (List ℕ)) → Type 0
AreLines [] = Unit {0}
AreLines (words ∷ lines) = IsLine words × AreLines lines

-- keywords, numbers and payloads are plain
tested : (byte : ℕ) → nat_le LEAST_PAYLOAD_BYTE byte ≡ true → LEAST_PAYLOAD_BYTE ≤ byte
tested byte is = grind (arith, nat_tests)

pub keyword_plain : (word : List ℕ) → list_all (λ byte. nat_le LEAST_PAYLOAD_BYTE byte) word ≡ true → IsPlain word
keyword_plain word is = λ k d below. tested _ (AllPass-from_list_all (λ byte. nat_le LEAST_PAYLOAD_BYTE byte) word is k d below)

pub digit_in : (value k d : ℕ) → value < 2 ^ 64 → k < length (decimal value) → IsInRange 48 57 (get_or (decimal value) k d)
digit_in value k d small below =
    subst (IsInRange 48 57) (sym (get_or_default_zero (decimal value) k d below)) (digit_at (decimal value) k (number_digits _ value (refl, small)) below)

pub number_plain : (value : ℕ) → value < 2 ^ 64 → IsPlain (decimal value)
number_plain value small = λ k d below. omega (arith, digit_in value k d small below)

visible_above : (byte : ℕ) → not (is_visible byte) ≡ false → LEAST_PAYLOAD_BYTE ≤ byte
visible_above byte is = grind (arith, nat_tests)

pub payload_plain : (payload : List ℕ) → IsPayload payload → IsPlain payload
payload_plain payload right = λ k d below.
    let all : length payload ≤ _ = at_end _ _ right.visible in
    visible_above _ (fails_before_first (λ byte. not (is_visible byte)) payload k d (omega arith))

-- plain words have neither a space nor a line feed
no_space : (byte : ℕ) → LEAST_PAYLOAD_BYTE ≤ byte → (byte == SPACE) ≡ false
no_space byte above = grind (arith, nat_tests)

no_feed : (byte : ℕ) → LEAST_PAYLOAD_BYTE ≤ byte → byte ≢ LINE_FEED
no_feed byte above is = omega (arith, above, is)

space_no_feed : SPACE ≢ LINE_FEED
space_no_feed is = omega (arith, is)

spaceless : (word : List ℕ) → IsPlain word → All (λ byte. (byte == SPACE) ≡ false) word
spaceless word plain = λ k d below. no_space _ (plain k d below)

feedless : (word : List ℕ) → IsPlain word → HasNoLineFeed word
feedless word plain = λ k d below. no_feed _ (plain k d below)

-- so they are taken apart again
words_of-spaced : (word : List ℕ) (words : List (List ℕ)) → IsPlain word → ArePlain words → words_of (spaced (word ∷ words)) ≡ word ∷ words
words_of-spaced word [] plain others = slice_split_none _ word (spaceless word plain)
words_of-spaced word (next ∷ words) plain others =
    slice_split_at _ word SPACE (spaced (next ∷ words)) (spaceless word plain) refl
    ∙ ap (λ behind. word ∷ behind) (words_of-spaced next words others.0 others.1)

feedless-spaced : (word : List ℕ) (words : List (List ℕ)) → IsPlain word → ArePlain words → HasNoLineFeed (spaced (word ∷ words))
feedless-spaced word [] plain others = feedless word plain
feedless-spaced word (next ∷ words) plain others =
    All-append (λ byte. byte ≢ LINE_FEED) word (SPACE ∷ spaced (next ∷ words)) (feedless word plain)
    (All-cons (λ byte. byte ≢ LINE_FEED) SPACE (spaced (next ∷ words)) space_no_feed (feedless-spaced next words others.0 others.1))

pub words_again : (words : List (List ℕ)) → IsLine words → words_of (spaced words) ≡ words
words_again [] line = absurd line
words_again (word ∷ words) line = words_of-spaced word words line.0 line.1

pub line_whole : (words : List (List ℕ)) → IsLine words → HasNoLineFeed (spaced words)
line_whole [] line = absurd line
line_whole (word ∷ words) line = feedless-spaced word words line.0 line.1

-- a text has one first line
no_feed_first : (byte : ℕ) (text : List ℕ) → HasNoLineFeed (byte ∷ text) → LINE_FEED ≡ byte → ⊥
no_feed_first byte text lacks is = All-head (λ b. b ≢ LINE_FEED) byte text lacks (sym is)

pub cut_once : (line other behind rest : List ℕ) → HasNoLineFeed line → HasNoLineFeed other
    → line ++ (LINE_FEED ∷ behind) ≡ other ++ (LINE_FEED ∷ rest) → (line ≡ other) × (behind ≡ rest)
cut_once [] [] behind rest whole lacks is = (refl, tail_of _ _ _ _ is)
cut_once [] (byte ∷ other) behind rest whole lacks is = absurd (no_feed_first byte other lacks (head_of _ _ _ _ is))
cut_once (byte ∷ line) [] behind rest whole lacks is = absurd (no_feed_first byte line whole (sym (head_of _ _ _ _ is)))
cut_once (byte ∷ line) (next ∷ other) behind rest whole lacks is =
    let bytes : byte ≡ next = head_of _ _ _ _ is in
    let more = cut_once line other behind rest (All-tail (λ b. b ≢ LINE_FEED) byte line whole)
    (All-tail (λ b. b ≢ LINE_FEED) next other lacks) (tail_of _ _ _ _ is) in
    let lines : line ≡ other = more.0 in
    (cc, more.1)

pub feed_in : (front behind : List ℕ) → HasNoLineFeed (front ++ (LINE_FEED ∷ behind)) → ⊥
feed_in [] behind lacks = no_feed_first LINE_FEED behind lacks refl
feed_in (byte ∷ front) behind lacks = feed_in front behind (All-tail (λ b. b ≢ LINE_FEED) byte (front ++ (LINE_FEED ∷ behind)) lacks)

pub line_first : (words : List (List ℕ)) (behind : List ℕ) → line_text words ++ behind ≡ spaced words ++ (LINE_FEED ∷ behind)
line_first words behind = append_assoc (spaced words) (LINE_FEED ∷ []) behind

-- which has one list of words
pub words_of_first : (words : List (List ℕ)) (behind line rest : List ℕ) → IsLine words → HasNoLineFeed line
    → line_text words ++ behind ≡ line ++ (LINE_FEED ∷ rest) → words_of line ≡ words
words_of_first words behind line rest is_line whole is =
    let cut = cut_once (spaced words) line behind rest (line_whole words is_line) whole (sym (line_first words behind) ∙ is) in
    ap words_of (sym cut.0) ∙ words_again words is_line

pub same_first_line : (words others : List (List ℕ)) (behind rest : List ℕ) → IsLine words → IsLine others
    → line_text words ++ behind ≡ line_text others ++ rest → (words ≡ others) × (behind ≡ rest)
same_first_line words others behind rest line other is =
    let cut = cut_once (spaced words) (spaced others) behind rest (line_whole words line) (line_whole others other)
    (sym (line_first words behind) ∙ is ∙ line_first others rest) in
    (sym (words_again words line) ∙ ap words_of cut.0 ∙ words_again others other, cut.1)

-- a line is no empty text
line_some : (words : List (List ℕ)) (behind : List ℕ) → line_text words ++ behind ≢ []
line_some words behind is =
    omega (arith, ap length is, length-append (line_text words) behind, length-append (spaced words) (LINE_FEED ∷ []))

-- Lines with a rest behind them are the first of all lines, and the rest is the others.
pub lines_behind : (front lines : List (List (List ℕ))) (rest : List ℕ) → AreLines front → AreLines lines
    → lines_text front ++ rest ≡ lines_text lines
    → (behind : List (List (List ℕ))) × (lines ≡ front ++ behind) × (rest ≡ lines_text behind)
lines_behind [] lines rest are all is = (lines, refl, is)
lines_behind (words ∷ front) [] rest are all is =
    absurd (line_some words (lines_text front ++ rest) (sym (append_assoc (line_text words) (lines_text front) rest) ∙ is))
lines_behind (words ∷ front) (others ∷ lines) rest are all is =
    let first = same_first_line words others (lines_text front ++ rest) (lines_text lines) are.0 all.0
    (sym (append_assoc (line_text words) (lines_text front) rest) ∙ is) in
    let (behind, split, tail) = lines_behind front lines rest are.1 all.1 first.1 in
    let same : words ≡ others = first.0 in
    (behind, cc, tail)

-- Of two lists of lines at the front of a text, the one that is not longer begins the other.
pub lines_before : (front lines : List (List (List ℕ))) (rest after : List ℕ) → AreLines front → AreLines lines → length front ≤ length lines
    → lines_text front ++ rest ≡ lines_text lines ++ after
    → (behind : List (List (List ℕ))) × (lines ≡ front ++ behind) × (rest ≡ lines_text behind ++ after)
lines_before [] lines rest after are all fewer is = (lines, refl, is)
lines_before (words ∷ front) [] rest after are all fewer is = absurd (omega (arith, fewer))
lines_before (words ∷ front) (others ∷ lines) rest after are all fewer is =
    let first = same_first_line words others (lines_text front ++ rest) (lines_text lines ++ after) are.0 all.0
    (sym (append_assoc (line_text words) (lines_text front) rest) ∙ is ∙ append_assoc (line_text others) (lines_text lines) after) in
    let (behind, split, tail) = lines_before front lines rest after are.1 all.1 (omega (arith, fewer)) first.1 in
    let same : words ≡ others = first.0 in
    (behind, cc, tail)

-- a text is of one list of lines
pub same_lines : (lines others : List (List (List ℕ))) → AreLines lines → AreLines others → lines_text lines ≡ lines_text others → lines ≡ others
same_lines lines others are all is =
    let (behind, split, rest) = lines_behind lines others [] are all (append-nil (lines_text lines) ∙ is) in
    sym (split ∙ ap (λ more. lines ++ more) (none behind rest) ∙ append-nil lines)
  where
    none : (behind : List (List (List ℕ))) → [] ≡ lines_text behind → behind ≡ []
    none [] is = refl
    none (words ∷ behind) is = absurd (line_some words (lines_text behind) (sym is))

pub lines-append : (front behind : List (List (List ℕ))) → AreLines front → AreLines behind → AreLines (front ++ behind)
lines-append [] behind are all = all
lines-append (words ∷ front) behind are all = (are.0, lines-append front behind are.1 all)
