-- A text of a history has no fault.
use Rattle.std.proofs.Common.{◌≡◌, ℕ, suc, ◌+◌, ◌<◌, ◌≤◌, ◌⊎◌, inl, inr, List, [], ◌∷◌, ◌++◌, length, map, slice_index, refl, sym, ap, subst, ◌∙◌, arith, length-append}
use Rattle.std.proofs.lemmas.List.{length-map, get_or_append_left}
use Rattle.std.proofs.lemmas.List.Elements.{All-head, All-tail}
use Rattle.rb_delayed.specs.declared.element.Element.{Element}
use Rattle.rb_queue.specs.Opening.{ids_of, AreInOrder}
use Rattle.rb_queue.specs.declared.event.Event.{Event}
use Rattle.rb_queue.specs.declared.opening.Opening.{Opening}
use Rattle.rb_queue.specs.declared.opening.TheConstants.{GREATEST_OPENING_ID, MOST_OPENING_ELEMENTS}
use Rattle.rb_history.specs.EventText.{event_words, header_words, open_words, keep_words, end_words}
use Rattle.rb_protocol.specs.Line.{HasNoLineFeed}
use Rattle.rb_history.specs.HistoryText.{line_text, lines_text, opening_lines}
use Rattle.rb_history.specs.OpeningReading.{numbers_words, MayOpen}
use Rattle.rb_history.specs.Ranges.{IsWord, IsRightElement, IsRightEvent, IsRightOpening, AreRightElements, AreRightEvents}
use Rattle.rb_history.specs.Readings.{MayBegin, NoFaultOfText}
use Rattle.rb_history.specs.TextFaults.{NextFault, EventsFault, HasOtherKeep, OpenFault, KeepFault, BodyFault}
use Rattle.rb_history.specs.declared.text_fault.TextReason.{TextReason}
use Rattle.rb_history.specs.declared.text_fault.TextReason.TheVariants as reasons
use Rattle.rb_history.specs.declared.text_fault.TextReason.TheVariants.{Header, Line, Many, Count, Trailing, End}
use Rattle.rb_history.specs.declared.version.Version.{Version}
use Rattle.rb_history.specs.declared.version.Version.TheVariants.{One, Two, Three}
use Rattle.rb_history.specs.declared.write.TheConstants.{MOST_EVENTS}
use Rattle.rb_history.proofs.EventTexts.{event_line, event_lines, event_no_end, same_end, end_line, header_line, keep_line, keep_lines, keep_told, numbers_line, same_version, same_numbers, told}
use Rattle.rb_history.proofs.Parts.{head_of, tail_of, same_parts}
use Rattle.rb_history.proofs.OneTexts.{event_texts, events_are_lines, open_are_lines, same_numbers_of}
use Rattle.rb_history.proofs.WordTexts.{AreLines, lines_behind, lines-append, same_first_line, words_of_first, line_first, feed_in}

-- a text with a line has a line feed
pub line_has_feed : (words : List (List ℕ)) (behind : List ℕ) → HasNoLineFeed (line_text words ++ behind) → ⊥
line_has_feed words behind lacks = feed_in _ behind (subst HasNoLineFeed (line_first words behind) lacks)

-- The next event's line stands behind the first of the events.
record IsAtEvent (version : Version) (events front : List Event) (behind : List (List (List ℕ))) : Type 0 where
  event : Event
  more : List (List (List ℕ))
  right : IsRightEvent event
  split : behind ≡ event_words version event ∷ more
  fewer : length front < length events

-- The last line stands behind them all.
record IsAtEnd (events front : List Event) (count : ℕ) (behind : List (List (List ℕ))) : Type 0 where
  all : length front ≡ length events
  split : behind ≡ end_words count ∷ []

-- behind the lines of some of the events stands one of these
stands : (version : Version) (front events : List Event) (count : ℕ) (behind : List (List (List ℕ))) → AreRightEvents front → AreRightEvents events
    → map (event_words version) events ++ (end_words count ∷ []) ≡ map (event_words version) front ++ behind
    → IsAtEnd events front count behind ⊎ IsAtEvent version events front behind
stands version [] [] count behind right fits is = inl (record { all = refl; split = sym is })
stands version [] (event ∷ events) count behind right fits is = inr (record {
  event = event;
  more = map (event_words version) events ++ (end_words count ∷ []);
  right = All-head IsRightEvent event events fits;
  split = sym is;
  fewer = omega arith;
})
stands version (event ∷ front) [] count behind right fits is =
    absurd (event_no_end version event count (All-head IsRightEvent event front right) (sym (head_of _ _ _ _ is)))
stands version (event ∷ front) (other ∷ events) count behind right fits is =
    more (stands version front events count behind (All-tail IsRightEvent event front right) (All-tail IsRightEvent other events fits) (tail_of _ _ _ _ is))
  where
    more : IsAtEnd events front count behind ⊎ IsAtEvent version events front behind
        → IsAtEnd (other ∷ events) (event ∷ front) count behind ⊎ IsAtEvent version (other ∷ events) (event ∷ front) behind
    more (inl end) = inl (record { all = ap suc end.all; split = end.split })
    more (inr next) = inr (record { event = next.event; more = next.more; right = next.right; split = next.split; fewer = omega (arith, next.fewer) })

-- no fault where the next event's line stands
pub no_fault_at_event : (version : Version) (event : Event) (behind rest : List ℕ) (count here line : ℕ) (reason : TextReason)
    → IsRightEvent event → count < MOST_EVENTS → rest ≡ line_text (event_words version event) ++ behind
    → NextFault version count here rest line reason → ⊥
no_fault_at_event version event behind rest count here line reason right few is fault = by reason fault
  where
    no_end : (number : ℕ) (after : List ℕ) → IsWord number → rest ≡ line_text (end_words number) ++ after → ⊥
    no_end number after small ends =
        event_no_end version event number right (same_first_line _ _ _ _ (event_line version event right) (end_line number small) (sym is ∙ ends)).0

    by : (reason : TextReason) → NextFault version count here rest line reason → ⊥
    by End fault = line_has_feed (event_words version event) behind (subst HasNoLineFeed is fault.1)
    by Line fault =
        fault.1.no_event event right (words_of_first _ _ _ _ (event_line version event right) fault.1.whole (sym is ∙ fault.1.split))
    by Many fault = omega (arith, fault.1, few)
    by Count fault = let (number, after, small, split, other) = fault.1 in no_end number after small split
    by Trailing fault = let (after, split, some) = fault.1 in no_end count after (omega (arith, few)) split
    by reasons.Opening fault = fault
    by Header fault = fault

-- nor where the last one stands
no_fault_at_end : (version : Version) (events front : List Event) (behind : List (List (List ℕ))) (rest : List ℕ) (here line : ℕ) (reason : TextReason)
    → length events ≤ MOST_EVENTS → IsAtEnd events front (length events) behind → rest ≡ lines_text behind
    → NextFault version (length front) here rest line reason → ⊥
no_fault_at_end version events front behind rest here line reason few end is fault = by reason fault
  where
    small : IsWord (length events)
    small = omega (arith, few)

    first : rest ≡ line_text (end_words (length events)) ++ []
    first = is ∙ ap lines_text end.split

    by : (reason : TextReason) → NextFault version (length front) here rest line reason → ⊥
    by End fault = line_has_feed (end_words (length events)) [] (subst HasNoLineFeed first fault.1)
    by Line fault =
        fault.1.no_end (length events) small (words_of_first _ _ _ _ (end_line (length events) small) fault.1.whole (sym first ∙ fault.1.split))
    by Many fault =
        let (event, after, right, split) = fault.2 in
        event_no_end version event (length events) right
        (same_first_line _ _ _ _ (event_line version event right) (end_line (length events) small) (sym split ∙ first)).0
    by Count fault =
        let (number, after, word, split, other) = fault.1 in
        other (same_end number (length events) word small
        (same_first_line _ _ _ _ (end_line number word) (end_line (length events) small) (sym split ∙ first)).0 ∙ sym end.all)
    by Trailing fault =
        let (after, split, some) = fault.1 in
        let counted = end_line (length front) (omega (arith, end.all, few)) in
        some (same_first_line (end_words (length front)) (end_words (length events)) after [] counted (end_line (length events) small) (sym split ∙ first)).1
    by reasons.Opening fault = fault
    by Header fault = fault

-- the lines of events have no fault
events_faultless : (version : Version) (events : List Event) (first line : ℕ) (reason : TextReason) → AreRightEvents events → length events ≤ MOST_EVENTS
    → EventsFault version (lines_text (event_texts version events)) first line reason → ⊥
events_faultless version events first line reason right few fault =
    let (behind, split, rest) = lines_behind (map (event_words version) fault.events) (event_texts version events) fault.rest
    (event_lines version fault.events fault.right) (events_are_lines version events right few) (sym fault.split) in
    at behind rest (stands version fault.events events (length events) behind fault.right right split)
  where
    at : (behind : List (List (List ℕ))) → fault.rest ≡ lines_text behind
        → IsAtEnd events fault.events (length events) behind ⊎ IsAtEvent version events fault.events behind → ⊥
    at behind rest (inl end) = no_fault_at_end version events fault.events behind fault.rest _ line reason few end rest fault.fault
    at behind rest (inr next) =
        no_fault_at_event version next.event (lines_text next.more) fault.rest (length fault.events) (first + length fault.events) line reason next.right
        (omega (arith, next.fewer, few)) (rest ∙ ap lines_text next.split) fault.fault

-- The next element's line stands behind the first of the elements, whose ids are the first ones.
pub record IsAtKeep (version : Version) (elements kept : List Element) (behind : List (List (List ℕ))) : Type 0 where
  pub element : Element
  pub more : List (List (List ℕ))
  pub others : List ℕ
  pub right : IsRightElement element
  pub split : behind ≡ keep_words version element ∷ more
  pub ids : ids_of elements ≡ ids_of (kept ++ element ∷ []) ++ others

told_id : (version : Version) (one other : Element) → told version one ≡ told version other → one.id ≡ other.id
told_id One one other is = ap (λ (e : Element). e.id) is
told_id Two one other is = ap (λ (e : Element). e.id) is
told_id Three one other is = ap (λ (e : Element). e.id) is

pub stands_keep : (version : Version) (kept elements : List Element) (last behind : List (List (List ℕ))) → AreRightElements kept → AreRightElements elements
    → length kept < length elements → map (keep_words version) elements ++ last ≡ map (keep_words version) kept ++ behind
    → IsAtKeep version elements kept behind
stands_keep version kept [] last behind right fits fewer is = absurd (omega arith)
stands_keep version [] (element ∷ elements) last behind right fits fewer is = record {
  element = element;
  more = map (keep_words version) elements ++ last;
  others = ids_of elements;
  right = All-head IsRightElement element elements fits;
  split = sym is;
  ids = refl;
}
stands_keep version (element ∷ kept) (other ∷ elements) last behind right fits fewer is =
    let next = stands_keep version kept elements last behind (All-tail IsRightElement element kept right) (All-tail IsRightElement other elements fits)
    (omega arith) (tail_of _ _ _ _ is) in
    let same : other.id ≡ element.id = told_id version other element (keep_told version other element (All-head IsRightElement other elements fits)
    (All-head IsRightElement element kept right) (head_of _ _ _ _ is)) in
    record {
      element = next.element;
      more = next.more;
      others = next.others;
      right = next.right;
      split = next.split;
      ids = λ i. same i ∷ next.ids i;
    }

-- the first of elements in order are so
pub order_of_first : (front elements : List Element) (others : List ℕ) (end : ℕ) → ids_of elements ≡ ids_of front ++ others → AreInOrder elements end
    → AreInOrder front end
order_of_first front elements others end is order = record {
  rising = λ one other lower within.
      let less = order.rising one other lower (omega (arith, long, within)) in
      omega (arith, same one (omega (arith, lower, within)), same other within, less);
  below = λ place within. let less = order.below place (omega (arith, long, within)) in omega (arith, same place within, less);
}
  where
    long : length front ≤ length elements
    long =
        omega (arith, ap length is, length-append (ids_of front) others, length-map front (λ (e : Element). e.id), length-map elements (λ (e : Element). e.id))

    same : (place : ℕ) → place < length front → slice_index (ids_of elements) place ≡ slice_index (ids_of front) place
    same place within =
        ap (λ ids. slice_index ids place) is
        ∙ get_or_append_left (ids_of front) others 0 place (omega (arith, within, length-map front (λ (e : Element). e.id)))

-- the lines behind the header of the second or the third version
abbrev open_texts : Version → Opening → List Event → List (List (List ℕ))
open_texts version opening events = (open_words opening ∷ map (keep_words version) opening.elements) ++ event_texts version events

open_texts_are_lines : (version : Version) (opening : Opening) (events : List Event) → IsRightOpening opening → AreRightEvents events → length events ≤ MOST_EVENTS
    → AreLines (open_texts version opening events)
open_texts_are_lines version opening events right fits few =
    lines-append (open_words opening ∷ map (keep_words version) opening.elements) (event_texts version events) (open_are_lines version opening right)
    (events_are_lines version events fits few)

-- the numbers of an opening have no fault
pub no_fault_at_numbers : (version : Version) (next_id last_at count : ℕ) (text behind : List ℕ) (line : ℕ) (reason : TextReason)
    → next_id ≤ GREATEST_OPENING_ID → IsWord last_at → count ≤ MOST_OPENING_ELEMENTS → MayOpen version next_id last_at count
    → text ≡ line_text (numbers_words next_id last_at count) ++ behind → OpenFault version text line reason → ⊥
no_fault_at_numbers version next_id last_at count text behind line reason next last few opens is (here, inl (end, lacks)) =
    line_has_feed (numbers_words next_id last_at count) behind (subst HasNoLineFeed is lacks)
no_fault_at_numbers version next_id last_at count text behind line reason next last few opens is (here, inr (other, wrong)) =
    let line_is = numbers_line next_id last_at count (omega (arith, next)) last (omega (arith, few)) in
    wrong.no_open next_id last_at count last
    (record {
      words_are = words_of_first (numbers_words next_id last_at count) behind wrong.line wrong.behind line_is wrong.whole (sym is ∙ wrong.split);
      next = next;
      few = few;
    }) opens

open_faultless : (version : Version) (opening : Opening) (events : List Event) (line : ℕ) (reason : TextReason) → IsRightOpening opening
    → MayOpen version opening.next_id opening.last_at (length opening.elements)
    → OpenFault version (lines_text (open_texts version opening events)) line reason → ⊥
open_faultless version opening events line reason right opens fault =
    no_fault_at_numbers version opening.next_id opening.last_at (length opening.elements) (lines_text (open_texts version opening events))
    (lines_text (map (keep_words version) opening.elements ++ event_texts version events)) line reason opening.opening.next right.last_at
    opening.opening.few opens refl fault

-- where the next element's line stands there is none
pub no_fault_at_keep : (version : Version) (next_id : ℕ) (kept : List Element) (element : Element) (rest behind : List ℕ) (reason : TextReason)
    → IsRightElement element → AreInOrder (kept ++ element ∷ []) next_id → rest ≡ line_text (keep_words version element) ++ behind
    → ((reason ≡ End) × HasNoLineFeed rest) ⊎ ((reason ≡ reasons.Opening) × HasOtherKeep version next_id kept rest) → ⊥
no_fault_at_keep version next_id kept element rest behind reason right order is (inl (end, lacks)) =
    line_has_feed (keep_words version element) behind (subst HasNoLineFeed is lacks)
no_fault_at_keep version next_id kept element rest behind reason right order is (inr (other, wrong)) =
    wrong.no_keep element right
    (words_of_first (keep_words version element) behind wrong.line wrong.behind (keep_line version element right) wrong.whole (sym is ∙ wrong.split)) order

-- nor has a line of its elements
keep_faultless : (version : Version) (opening : Opening) (events : List Event) (line : ℕ) (reason : TextReason) → IsRightOpening opening → AreRightEvents events
    → length events ≤ MOST_EVENTS → KeepFault version (lines_text (open_texts version opening events)) line reason → ⊥
keep_faultless version opening events line reason right fits few fault =
    let next = opening.opening.next in
    let most = opening.opening.few in
    let low = fault.next in
    let small = fault.most in
    let (behind, split, rest) = lines_behind (numbers_words fault.next_id fault.last_at fault.count ∷ map (keep_words version) fault.kept)
    (open_texts version opening events) fault.rest
    (numbers_line fault.next_id fault.last_at fault.count (omega arith) fault.last (omega arith), keep_lines version fault.kept fault.right)
    (open_texts_are_lines version opening events right fits few) (sym fault.split) in
    let numbers = same_numbers opening.next_id opening.last_at (length opening.elements) fault.next_id fault.last_at fault.count
    (omega arith) right.last_at (omega arith) (omega arith) fault.last (omega arith) (head_of _ _ _ _ split) in
    let keep = stands_keep version fault.kept opening.elements (event_texts version events) behind fault.right right.elements
    (omega (arith, numbers.counts, fault.fewer)) (tail_of _ _ _ _ split) in
    no_fault_at_keep version fault.next_id fault.kept keep.element fault.rest (lines_text keep.more) reason keep.right
    (order_of_first (fault.kept ++ keep.element ∷ []) opening.elements keep.others fault.next_id keep.ids
    (subst (AreInOrder opening.elements) numbers.next opening.opening.order))
    (rest ∙ ap lines_text keep.split) fault.fault

-- nor what stands behind the opening
behind_faultless : (version : Version) (opening second : Opening) (events : List Event) (rest : List ℕ) (first line : ℕ) (reason : TextReason)
    → IsRightOpening opening → AreRightEvents events → length events ≤ MOST_EVENTS → IsRightOpening second
    → lines_text (open_texts version opening events) ≡ lines_text (open_words second ∷ map (keep_words version) second.elements) ++ rest
    → EventsFault version rest first line reason → ⊥
behind_faultless version opening second events rest first line reason right fits few suits is fault =
    let (behind, split, tail) = lines_behind (open_words second ∷ map (keep_words version) second.elements) (open_texts version opening events) rest
    (open_are_lines version second suits) (open_texts_are_lines version opening events right fits few) (sym is) in
    let numbers = same_numbers_of opening second right suits (head_of _ _ _ _ split) in
    let lengths = length-map opening.elements (keep_words version) ∙ numbers.counts ∙ sym (length-map second.elements (keep_words version)) in
    let parts = same_parts (map (keep_words version) opening.elements) (map (keep_words version) second.elements) (event_texts version events) behind
    lengths (tail_of _ _ _ _ split) in
    events_faultless version events first line reason fits few
    (subst (λ text. EventsFault version text first line reason) (tail ∙ ap lines_text (sym parts.1)) fault)

-- the lines behind the header have no fault
body_faultless : (version : Version) (opening : Opening) (events : List Event) (line : ℕ) (reason : TextReason) → IsRightOpening opening → AreRightEvents events
    → length events ≤ MOST_EVENTS → MayBegin version opening
    → BodyFault version (lines_text (opening_lines version opening ++ event_texts version events)) line reason → ⊥
body_faultless One opening events line reason right fits few begins fault = events_faultless One events 2 line reason fits few fault
body_faultless Two opening events line reason right fits few begins (inl fault) = open_faultless Two opening events line reason right begins fault
body_faultless Two opening events line reason right fits few begins (inr (inl fault)) = keep_faultless Two opening events line reason right fits few fault
body_faultless Two opening events line reason right fits few begins (inr (inr fault)) =
    behind_faultless Two opening fault.opening events fault.rest _ line reason right fits few fault.right fault.split fault.fault
body_faultless Three opening events line reason right fits few begins (inl fault) = open_faultless Three opening events line reason right tt fault
body_faultless Three opening events line reason right fits few begins (inr (inl fault)) = keep_faultless Three opening events line reason right fits few fault
body_faultless Three opening events line reason right fits few begins (inr (inr fault)) =
    behind_faultless Three opening fault.opening events fault.rest _ line reason right fits few fault.right fault.split fault.fault

-- nor has the header's
pub no_fault_of_text : NoFaultOfText
no_fault_of_text opening events text line reason right fits (version, is_text) (inl (here, header, none)) = none version _ is_text.text_is
no_fault_of_text opening events text line reason right fits (version, is_text) (inr fault) =
    let first = same_first_line (header_words version) (header_words fault.version) (lines_text (opening_lines version opening ++ event_texts version events))
    fault.behind (header_line version) (header_line fault.version) (sym is_text.text_is ∙ fault.split) in
    let versions : version ≡ fault.version = same_version version fault.version first.0 in
    let in_own : BodyFault version fault.behind line reason = subst (λ v. BodyFault v fault.behind line reason) (sym versions) fault.fault in
    body_faultless version opening events line reason right fits is_text.few is_text.begins
    (subst (λ behind. BodyFault version behind line reason) (sym first.1) in_own)
