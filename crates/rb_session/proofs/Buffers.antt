-- Lines in lists of bytes: where they end, and what is left.
use Rattle.std.proofs.Common.{◌≡◌, ◌≢◌, ℕ, suc, ◌+◌, ◌-◌, ◌<◌, ◌≤◌, List, [], ◌∷◌, ◌++◌, refl, sym, ap, ◌∙◌, arith}
use Rattle.std.proofs.Common.{length, get_or, take, drop, cond, Bool, true, false, nat_eq, length-append}
use Rattle.std.proofs.Common.{length-take-le, length-drop, append_assoc}
use Rattle.std.proofs.lemmas.List.{take-append-drop, drop-take, drop-drop, take-append-le, drop-append-le}
use Rattle.std.proofs.lemmas.List.Elements.{All-append}
use Rattle.std.proofs.lemmas.Bool.Decides.{nat_tests}
use Rattle.std.proofs.Math.Seq.{drop-cons, take-append-add}
use Rattle.std.specs.Prelude.{slice_range, MatchBool}
use Rattle.rb_protocol.specs.Line.{HasNoLineFeed}
use Rattle.rb_protocol.specs.declared.format.TheConstants.{LINE_FEED, CARRIAGE_RETURN}
use Rattle.rb_session.specs.Lines.{line_of}

-- two parts with no line feed have none together
no_feed-append : (front back : List ℕ) → HasNoLineFeed front → HasNoLineFeed back → HasNoLineFeed (front ++ back)
no_feed-append front back = All-append (λ byte. byte ≢ LINE_FEED) front back

-- a carriage return at the end belongs to the line's end
pub line_of-return : (raw : List ℕ) → 0 < length raw → get_or raw (length raw - 1) 0 ≡ CARRIAGE_RETURN
    → take (length raw - 1) raw ≡ line_of raw
line_of-return [] some last = absurd (omega arith)
line_of-return (byte ∷ []) some last =
    let test : nat_eq byte CARRIAGE_RETURN ≡ true = grind (arith, nat_tests) in
    sym (ap (λ b. cond b [] (byte ∷ [])) test)
line_of-return (byte ∷ next ∷ rest) some last =
    let at : length (byte ∷ next ∷ rest) - 1 ≡ suc (length (next ∷ rest) - 1) = omega arith in
    let behind : get_or (next ∷ rest) (length (next ∷ rest) - 1) 0 ≡ CARRIAGE_RETURN =
    sym (ap (λ i. get_or (byte ∷ next ∷ rest) i 0) at) ∙ last in
    ap (λ i. take i (byte ∷ next ∷ rest)) at ∙ ap (λ bytes. byte ∷ bytes)
    (line_of-return (next ∷ rest) (omega arith) behind)

pub line_of-other : (raw : List ℕ) → (0 < length raw → get_or raw (length raw - 1) 0 ≢ CARRIAGE_RETURN)
    → raw ≡ line_of raw
line_of-other [] other = refl
line_of-other (byte ∷ []) other =
    let differs : byte ≢ CARRIAGE_RETURN = other (omega arith) in
    let test : nat_eq byte CARRIAGE_RETURN ≡ false = grind (arith, nat_tests) in
    sym (ap (λ b. cond b [] (byte ∷ [])) test)
line_of-other (byte ∷ next ∷ rest) other =
    let at : length (byte ∷ next ∷ rest) - 1 ≡ suc (length (next ∷ rest) - 1) = omega arith in
    ap (λ bytes. byte ∷ bytes) (line_of-other (next ∷ rest)
    (λ some is. other (omega arith) (ap (λ i. get_or (byte ∷ next ∷ rest) i 0) at ∙ is)))

-- a line loses one byte at most to its end
pub length-line_of : (raw : List ℕ) → length raw ≤ length (line_of raw) + 1
length-line_of [] = omega arith
length-line_of (byte ∷ []) = elim (nat_eq byte CARRIAGE_RETURN) as
    (λ b. length (byte ∷ []) ≤ length (cond b [] (byte ∷ [])) + 1) [ true ↦ omega arith | false ↦ omega arith ]
length-line_of (byte ∷ next ∷ rest) = omega (arith, length-line_of (next ∷ rest))

-- the bytes round a line feed
pub cut_at : (held : List ℕ) (len : ℕ) → len < length held → get_or held len 0 ≡ LINE_FEED
    → held ≡ take len held ++ LINE_FEED ∷ drop (len + 1) held
cut_at held len within feed =
    let at : drop len held ≡ LINE_FEED ∷ drop (suc len) held =
    drop-cons held len 0 within ∙ ap (λ b. b ∷ drop (suc len) held) feed in
    let next : suc len ≡ len + 1 = omega arith in
    sym (take-append-drop len held) ∙ ap (λ bytes. take len held ++ bytes) (at ∙ ap (λ n. LINE_FEED ∷ drop n held) next)

-- what is left of a range after its first bytes
pub range_after : (xs : List ℕ) (start k end : ℕ) → start + k ≤ end
    → slice_range xs (start + k) end ≡ drop k (slice_range xs start end)
range_after xs start k end within =
    let m : ℕ = end - (start + k) in
    let whole : end - start ≡ k + (end - (start + k)) = omega arith in
    ap (take (end - (start + k))) (sym (drop-drop k start xs))
    ∙ sym (drop-take k (end - (start + k)) (drop start xs))
    ∙ ap (λ n. drop k (take n (drop start xs))) (sym whole)

-- a range that grows by what is written behind it
pub range_more : (xs buf post : List ℕ) (start end count : ℕ) → start ≤ end → end ≤ length xs → count ≤ length buf
    → slice_range (take end xs ++ (buf ++ post)) start (end + count) ≡ slice_range xs start end ++ take count buf
range_more xs buf post start end count before within fits =
    let len : length (take end xs) ≡ end = length-take-le end xs within in
    let kept : length (drop start (take end xs)) ≡ end - start =
    length-drop start (take end xs) ∙ ap (λ n. n - start) len in
    let whole : (end + count) - start ≡ (end - start) + count = omega arith in
    let front : drop start (take end xs ++ (buf ++ post)) ≡ drop start (take end xs) ++ (buf ++ post) =
    drop-append-le start (take end xs) (buf ++ post) (omega (arith, len, before)) in
    let cut : take end xs ≡ take (start + (end - start)) xs = ap (λ n. take n xs) (omega arith) in
    ap (take ((end + count) - start)) front
    ∙ ap (λ n. take n (drop start (take end xs) ++ (buf ++ post))) (whole ∙ ap (λ n. n + count) (sym kept))
    ∙ take-append-add (drop start (take end xs)) (buf ++ post) count
    ∙ ap (λ bytes. drop start (take end xs) ++ bytes) (take-append-le count buf post fits)
    ∙ ap (λ bytes. bytes ++ take count buf) (ap (drop start) cut ∙ drop-take start (end - start) xs)

-- what is to be served grows with what is held
pub unserved_more : (is_long : Bool) (most : ℕ) (held more held' bytes : List ℕ) → held' ≡ held ++ more
    → MatchBool is_long ((dropped : List ℕ) × HasNoLineFeed dropped × (most < length dropped)
    × (bytes ≡ dropped ++ held)) (bytes ≡ held)
    → MatchBool is_long ((dropped : List ℕ) × HasNoLineFeed dropped × (most < length dropped)
    × (bytes ++ more ≡ dropped ++ held')) (bytes ++ more ≡ held')
unserved_more true most held more held' bytes grows (dropped, none, many, is) =
    (dropped, none, many, ap (λ b. b ++ more) is ∙ append_assoc dropped held more ∙ ap (λ b. dropped ++ b) (sym grows))
unserved_more false most held more held' bytes grows is = ap (λ b. b ++ more) is ∙ sym grows

pub unserved_same : (is_long : Bool) (most : ℕ) (held held' bytes : List ℕ) → held' ≡ held
    → MatchBool is_long ((dropped : List ℕ) × HasNoLineFeed dropped × (most < length dropped)
    × (bytes ≡ dropped ++ held)) (bytes ≡ held)
    → MatchBool is_long ((dropped : List ℕ) × HasNoLineFeed dropped × (most < length dropped)
    × (bytes ≡ dropped ++ held')) (bytes ≡ held')
unserved_same true most held held' bytes same (dropped, none, many, is) =
    (dropped, none, many, is ∙ ap (λ b. dropped ++ b) (sym same))
unserved_same false most held held' bytes same is = is ∙ sym same

-- what is to be served is too long for a request, where its first bytes were dropped or more are held than a request
-- has
pub too_long : (is_long : Bool) (most : ℕ) (held bytes : List ℕ) → (is_long ≡ false → most < length held)
    → MatchBool is_long ((dropped : List ℕ) × HasNoLineFeed dropped × (most < length dropped)
    × (bytes ≡ dropped ++ held)) (bytes ≡ held)
    → most < length bytes
too_long true most held bytes more (dropped, none, many, is) =
    omega (arith, ap length is, length-append dropped held, many)
too_long false most held bytes more is = omega (arith, ap length is, more refl)

-- the first line of what a buffer has to serve, from the first line feed of what it holds
pub first_line : (is_long : Bool) (most : ℕ) (held bytes : List ℕ) (len : ℕ) → len < length held
    → HasNoLineFeed (take len held) → get_or held len 0 ≡ LINE_FEED
    → MatchBool is_long ((dropped : List ℕ) × HasNoLineFeed dropped × (most < length dropped)
    × (bytes ≡ dropped ++ held)) (bytes ≡ held)
    → (raw : List ℕ) × (bytes ≡ raw ++ LINE_FEED ∷ drop (len + 1) held) × HasNoLineFeed raw
    × MatchBool is_long (most < length raw) (raw ≡ take len held)
first_line true most held bytes len within none feed (dropped, none_before, many, is) = (
  dropped ++ take len held,
  is ∙ ap (λ b. dropped ++ b) (cut_at held len within feed)
      ∙ sym (append_assoc dropped (take len held) (LINE_FEED ∷ drop (len + 1) held)),
  no_feed-append dropped (take len held) none_before none,
  omega (arith, length-append dropped (take len held), many),
)
first_line false most held bytes len within none feed is = (take len held, is ∙ cut_at held len within feed, none, refl)

-- what a write into the back of a list leaves has the list's length
pub length-written : (xs buf : List ℕ) (end : ℕ) → end ≤ length xs → length buf ≡ length xs - end
    → length (take end xs ++ (buf ++ drop (length xs - end) (drop end xs))) ≡ length xs
length-written xs buf end within fits =
    let rest : length (drop (length xs - end) (drop end xs)) ≡ 0 = simp length-drop (omega arith) in
    length-append (take end xs) (buf ++ drop (length xs - end) (drop end xs))
    ∙ omega (arith, length-take-le end xs within, length-append buf (drop (length xs - end) (drop end xs)), rest, fits)
