-- The lines that keep an opening's elements, and one more.
use Rattle.std.proofs.Common.{◌≡◌, ℕ, ◌+◌, ◌<◌, ◌≤◌, List, [], ◌∷◌, ◌++◌, length, map, refl, sym, ap, subst, ◌∙◌, arith, inl, inr, ◌⊎◌, append_assoc, append-nil, length-append}
use Rattle.std.specs.Prelude.{slice_index}
use Rattle.std.proofs.lemmas.List.{map-append, get_or_append_left, get_or_at, length-map}
use Rattle.std.proofs.lemmas.Bool.{cases_lt}
use Rattle.std.proofs.lemmas.List.Elements.{All-push}
use Rattle.rb_protocol.specs.Line.{words_of, HasNoLineFeed}
use Rattle.rb_protocol.specs.declared.format.TheConstants.{LINE_FEED}
use Rattle.rb_delayed.specs.declared.element.Element.{Element}
use Rattle.rb_queue.specs.Opening.{ids_of, AreInOrder}
use Rattle.rb_queue.proofs.Orders.{InOrderSoFar, so_far_more, out_of_order, in_order}
use Rattle.rb_history.specs.BodyReading.{KeepsNext, KeepsNone, KeepsAll, StopsKeeping}
use Rattle.rb_history.specs.EventText.{whole_element_words, keep_words}
use Rattle.rb_history.specs.HistoryText.{line_text, lines_text}
use Rattle.rb_history.specs.Ranges.{IsRightElement, AreRightElements}
use Rattle.rb_history.specs.TextFaults.{HasOtherKeep}
use Rattle.rb_history.specs.declared.text_fault.TextReason.{TextReason}
use Rattle.rb_history.specs.declared.text_fault.TextReason.TheVariants.{Opening, End}
use Rattle.rb_history.specs.declared.version.Version.{Version}
use Rattle.rb_history.proofs.EventLines.{line_is}
use Rattle.rb_history.proofs.Lines.{lines_text-append}
use Rattle.rb_history.proofs.Spelled.{same_number}

-- a line keeps elements of one id only
keeps_id : (version : Version) (words : List (List ℕ)) (one other : Element) → IsRightElement one → IsRightElement other
    → words ≡ keep_words version one → words ≡ keep_words version other → one.id ≡ other.id
keeps_id version words one other right low is named =
    let rest : whole_element_words version one ≡ whole_element_words version other = cc in
    same_number (whole_element_words version one) _ _ one.id other.id right.id low.id refl rest

-- an element with this id may not come next, and so none that its line keeps
pub keeps_none : (version : Version) (least end : ℕ) (words : List (List ℕ)) (element : Element) → words ≡ keep_words version element → IsRightElement element
    → (element.id < least) ⊎ (end ≤ element.id) → KeepsNone version least end words
keeps_none version least end words element is right off = λ other right_other named up low.
    misplaced (keeps_id version words element other right right_other is named) up low off
  where
    misplaced : {id : ℕ} → element.id ≡ id → least ≤ id → id < end → (element.id < least) ⊎ (end ≤ element.id) → ⊥
    misplaced same up low (inl soon) = omega (arith, same, up, soon)
    misplaced same up low (inr late) = omega (arith, same, low, late)

-- one element more behind those in order
id_before : (kept : List Element) (element : Element) (place : ℕ) → place < length kept → slice_index (ids_of (kept ++ element ∷ [])) place ≡ slice_index (ids_of kept) place
id_before kept element place within =
    ap (λ ids. slice_index ids place) (map-append (λ (e : Element). e.id) kept (element ∷ []))
    ∙ get_or_append_left (ids_of kept) (element.id ∷ []) 0 place (omega (arith, within, length-map kept (λ (e : Element). e.id)))

id_last : (kept : List Element) (element : Element) → slice_index (ids_of (kept ++ element ∷ [])) (length kept) ≡ element.id
id_last kept element =
    ap (λ ids. slice_index ids (length kept)) (map-append (λ (e : Element). e.id) kept (element ∷ []))
    ∙ get_or_at (ids_of kept) element.id [] 0 (length kept) (length-map kept (λ (e : Element). e.id))

so_far_longer : (kept : List Element) (element : Element) (end least : ℕ) → InOrderSoFar kept end (length kept) least → InOrderSoFar (kept ++ element ∷ []) end (length kept) least
so_far_longer kept element end least so_far = record {
  rising = λ one other before within.
      let there = so_far.rising one other before within in
      let low = id_before kept element one (omega (arith, before, within)) in
      let high = id_before kept element other within in
      omega (arith, there, low, high);
  below = λ place within. let there = so_far.below place within in let same = id_before kept element place within in omega (arith, there, same);
  past = λ place within. let there = so_far.past place within in let same = id_before kept element place within in omega (arith, there, same);
  first = so_far.first;
  last = λ place is. let there = so_far.last place is in let same = id_before kept element place (omega (arith, is)) in omega (arith, there, same);
}

-- what is known behind some of the lines
pub record KeptSoFar (version : Version) (end : ℕ) (text : List ℕ) (kept : List Element) (rest : List ℕ) (least place : ℕ) : Type 0 where
  pub split : text ≡ lines_text (map (keep_words version) kept) ++ rest
  pub order : InOrderSoFar kept end (length kept) least
  pub right : AreRightElements kept
  pub counted : length kept ≡ place

-- one line more
pub kept_more : (version : Version) (end : ℕ) (text : List ℕ) (kept : List Element) (rest : List ℕ) (least place : ℕ) (element : Element) (line behind : List ℕ)
    → KeptSoFar version end text kept rest least place → rest ≡ line ++ (LINE_FEED ∷ behind) → KeepsNext version least end (words_of line) element
    → KeptSoFar version end text (kept ++ element ∷ []) behind (element.id + 1) (place + 1)
kept_more version end text kept rest least place element line behind so_far cut keeps =
    let more : lines_text (map (keep_words version) (kept ++ element ∷ [])) ≡ lines_text (map (keep_words version) kept) ++ line_text (keep_words version element) =
    ap lines_text (map-append (keep_words version) kept (element ∷ []))
    ∙ lines_text-append (map (keep_words version) kept) (keep_words version element ∷ [])
    ∙ ap (λ t. lines_text (map (keep_words version) kept) ++ t) (append-nil (line_text (keep_words version element))) in
    let longer : length (kept ++ element ∷ []) ≡ length kept + 1 = length-append kept (element ∷ []) in
    record {
      split = so_far.split ∙ ap (λ t. lines_text (map (keep_words version) kept) ++ t) (cut ∙ line_is line behind _ keeps.words_are)
          ∙ sym (append_assoc (lines_text (map (keep_words version) kept)) (line_text (keep_words version element)) behind)
          ∙ ap (λ t. t ++ behind) (sym more);
      order = subst (λ n. InOrderSoFar (kept ++ element ∷ []) end n (element.id + 1)) (sym longer)
          (so_far_more (kept ++ element ∷ []) end (length kept) least element.id (so_far_longer kept element end least so_far.order) (id_last kept element) keeps.up keeps.low);
      right = All-push IsRightElement kept element so_far.right keeps.right;
      counted = omega (arith, longer, so_far.counted);
    }

-- all lines
pub kept_all : (version : Version) (end count : ℕ) (text : List ℕ) (kept : List Element) (rest : List ℕ) (least place : ℕ) → KeptSoFar version end text kept rest least place
    → place ≡ count → KeepsAll version end count text kept rest
kept_all version end count text kept rest least place so_far all = record {
  split = so_far.split;
  order = in_order kept end (length kept) least so_far.order (omega arith);
  right = so_far.right;
  counted = so_far.counted ∙ all;
}

-- fewer lines than announced keep an element, for this reason
stops : (version : Version) (end count : ℕ) (text : List ℕ) (kept : List Element) (rest : List ℕ) (least place : ℕ)
    → KeptSoFar version end text kept rest least place → place < count → (reason : TextReason)
    → ((reason ≡ End) × HasNoLineFeed rest) ⊎ ((reason ≡ Opening) × HasOtherKeep version end kept rest)
    → StopsKeeping version end count text (3 + place) reason
stops version end count text kept rest least place so_far fewer reason fault = record {
  kept = kept;
  rest = rest;
  split = so_far.split;
  order = in_order kept end (length kept) least so_far.order (omega arith);
  right = so_far.right;
  fewer = omega (arith, so_far.counted, fewer);
  place = ap (λ n. 3 + n) (sym so_far.counted);
  fault = fault;
}

-- no line is left
pub keeping_ends : (version : Version) (end count : ℕ) (text : List ℕ) (kept : List Element) (rest : List ℕ) (least place : ℕ)
    → KeptSoFar version end text kept rest least place → place < count → HasNoLineFeed rest
    → StopsKeeping version end count text (3 + place) End
keeping_ends version end count text kept rest least place so_far fewer whole =
    stops version end count text kept rest least place so_far fewer End (inl (refl, whole))

-- a line keeps no element that may come next
pub keeping_stops : (version : Version) (end count : ℕ) (text : List ℕ) (kept : List Element) (rest : List ℕ) (least place : ℕ) (line behind : List ℕ)
    → KeptSoFar version end text kept rest least place → place < count → rest ≡ line ++ (LINE_FEED ∷ behind) → HasNoLineFeed line
    → KeepsNone version least end (words_of line) → StopsKeeping version end count text (3 + place) Opening
keeping_stops version end count text kept rest least place line behind so_far fewer cut whole none =
    stops version end count text kept rest least place so_far fewer Opening
    (inr (refl, record { line = line; behind = behind; split = cut; whole = whole; no_keep = no_keep }))
  where
    off : (element : Element) → AreInOrder (kept ++ element ∷ []) end → (element.id < least) ⊎ (end ≤ element.id) → ⊥
    off element order wrong =
        let within : length kept < length (kept ++ element ∷ []) = omega (arith, length-append kept (element ∷ [])) in
        out_of_order (kept ++ element ∷ []) end (length kept) least element.id (so_far_longer kept element end least so_far.order) within (id_last kept element) wrong order

    by_place : (element : Element) → IsRightElement element → words_of line ≡ keep_words version element → AreInOrder (kept ++ element ∷ []) end
        → (element.id < least) ⊎ (least ≤ element.id) → (element.id < end) ⊎ (end ≤ element.id) → ⊥
    by_place element right is order (inl soon) high = off element order (inl soon)
    by_place element right is order (inr up) (inl low) = none element right is up low
    by_place element right is order (inr up) (inr late) = off element order (inr late)

    no_keep : (element : Element) → IsRightElement element → words_of line ≡ keep_words version element → AreInOrder (kept ++ element ∷ []) end → ⊥
    no_keep element right is order = by_place element right is order (cases_lt element.id least) (cases_lt element.id end)
