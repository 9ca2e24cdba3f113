-- How a line is put together from its words.
use Rattle.std.proofs.Common.{◌≡◌, ℕ, ◌+◌, ◌<◌, Bool, List, [], ◌∷◌, ◌++◌, codes, if◌then◌else◌, length, map, take, get_or, refl, sym, ap, ◌∙◌, append_assoc, append-nil}
use Rattle.std.proofs.lemmas.List.{map_more}
use Rattle.rb_protocol.specs.Line.{spaced}
use Rattle.rb_history.specs.HistoryText.{line_text, lines_text}
use Rattle.rb_history.specs.Tails.{tails}
use Rattle.rb_protocol.specs.declared.format.TheConstants.{SPACE, LINE_FEED}

-- a word, and the others behind it
pub spaced-tails : (word : List ℕ) (words : List (List ℕ)) → spaced (word ∷ words) ≡ word ++ tails words
spaced-tails word [] = sym (append-nil word)
spaced-tails word (next ∷ words) = ap (λ t. word ++ (SPACE ∷ t)) (spaced-tails next words)

-- words behind words
pub tails-append : (words more : List (List ℕ)) → tails (words ++ more) ≡ tails words ++ tails more
tails-append [] more = refl
tails-append (word ∷ words) more =
    ap (λ t. SPACE ∷ (word ++ t)) (tails-append words more) ∙ ap (λ t. SPACE ∷ t) (sym (append_assoc word (tails words) (tails more)))

-- lines behind lines
pub lines_text-append : (lines more : List (List (List ℕ))) → lines_text (lines ++ more) ≡ lines_text lines ++ lines_text more
lines_text-append [] more = refl
lines_text-append (line ∷ lines) more =
    ap (λ t. line_text line ++ t) (lines_text-append lines more) ∙ sym (append_assoc (line_text line) (lines_text lines) (lines_text more))

-- one word more behind a text
pub tails_more : {X : Type 0} (f : X → List ℕ) (front : List ℕ) (xs : List X) (i : ℕ) (x : X) → i < length xs → x ≡ get_or xs i x
    → (front ++ tails (map f (take i xs))) ++ (SPACE ∷ f x) ≡ front ++ tails (map f (take (i + 1) xs))
tails_more f front xs i x within is =
    let before = map f (take i xs) in
    let more : map f (take (i + 1) xs) ≡ before ++ f x ∷ [] =
    map_more f xs i x within ∙ ap (λ y. map f (take i xs) ++ f y ∷ []) (sym is) in
    append_assoc front (tails before) (SPACE ∷ f x)
    ∙ ap (λ t. front ++ t) (ap (λ t. tails before ++ (SPACE ∷ t)) (sym (append-nil (f x))) ∙ sym (tails-append before (f x ∷ [])) ∙ ap tails (sym more))

-- one line more
pub lines_more : {X : Type 0} (f : X → List (List ℕ)) (xs : List X) (i : ℕ) (x : X) → i < length xs → x ≡ get_or xs i x
    → lines_text (map f (take i xs)) ++ line_text (f x) ≡ lines_text (map f (take (i + 1) xs))
lines_more f xs i x within is =
    let before = map f (take i xs) in
    let more : map f (take (i + 1) xs) ≡ before ++ f x ∷ [] =
    map_more f xs i x within ∙ ap (λ y. map f (take i xs) ++ f y ∷ []) (sym is) in
    ap (λ t. lines_text before ++ t) (sym (append-nil (line_text (f x)))) ∙ sym (lines_text-append before (f x ∷ [])) ∙ ap lines_text (sym more)

-- an event's three numbers, what was done, and a line feed
pub event_line : (seat asked at : List ℕ) (words : List (List ℕ))
    → seat ++ (tails (asked ∷ at ∷ []) ++ (tails words ++ (LINE_FEED ∷ []))) ≡ line_text (seat ∷ asked ∷ at ∷ words)
event_line seat asked at words = simp (append_assoc, append-nil, spaced-tails)

-- all lines, one group behind the other
pub all_lines : (header opening end : List (List ℕ)) (keeps events : List (List (List ℕ)))
    → line_text header ++ (line_text opening ++ (lines_text keeps ++ (lines_text events ++ line_text end)))
    ≡ lines_text ((header ∷ opening ∷ keeps) ++ (events ++ (end ∷ [])))
all_lines header opening end keeps events =
    let last : lines_text events ++ line_text end ≡ lines_text (events ++ (end ∷ [])) =
    ap (λ t. lines_text events ++ t) (sym (append-nil (line_text end))) ∙ sym (lines_text-append events (end ∷ [])) in
    ap (λ t. line_text header ++ (line_text opening ++ t))
    (ap (λ t. lines_text keeps ++ t) last ∙ sym (lines_text-append keeps (events ++ (end ∷ []))))

-- a front, and an element's words
pub element_line : (front id expiry origin first attempt attempt' payload payload' : List ℕ) → attempt' ≡ attempt → payload' ≡ payload
    → (front ++ tails (id ∷ expiry ∷ origin ∷ [])) ++ (tails (first ∷ attempt' ∷ []) ++ ((SPACE ∷ []) ++ payload'))
    ≡ front ++ tails (id ∷ expiry ∷ origin ∷ first ∷ attempt ∷ payload ∷ [])
element_line front id expiry origin first attempt attempt' payload payload' same_attempt same_payload =
    simp (append_assoc, append-nil, same_attempt, same_payload)

-- a front, and two words, the second of which was told apart
pub remove_line : (found : Bool) (front id word : List ℕ) → word ≡ SPACE ∷ (if found then codes "yes" else codes "no")
    → (front ++ tails (id ∷ [])) ++ word ≡ front ++ tails (id ∷ (if found then codes "yes" else codes "no") ∷ [])
remove_line found front id word is = simp (append_assoc, append-nil, is)
